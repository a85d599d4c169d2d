-- Searching the sessions by rising number for the first that stands in the way.
use Rattle.std.proofs.Common.{◌≡◌, ℕ, suc, ◌+◌, ◌-◌, ◌<◌, ◌≤◌, List, [], ◌∷◌, Bool, true, false, Some, None, Option, refl, sym, ap, ◌∙◌, arith, ◌==◌}
use Rattle.std.specs.Prelude.{filter, filter_map, not, option_map}
use Rattle.std.specs.List.{range_with_len}
use Rattle.std.specs.Option.{is_some}
use Rattle.own_model.specs.declared.footprint.FootItem.{FootItem}
use Rattle.own_model.specs.declared.limit.TheConstants.{SESSIONS}
use Rattle.history_model.specs.Held.{Holding, first_holding, first_overlap}
use Rattle.row_locks.specs.declared.held_item.HeldItem.{HeldItem}
use Rattle.row_locks.specs.SessionItems.{items_by}
use Rattle.row_locks.specs.RepresentsItems.{AreHeld, holder_among, holding_among, holding_of_other, told}
use Rattle.row_locks.proofs.Holders.{holder-alike}

-- nothing overlaps a session's items where it has none
no_overlap : (footprint : List FootItem) → first_overlap [] footprint ≡ None
no_overlap [] = refl
no_overlap (item ∷ footprint) = no_overlap footprint

pub no_holding : (held : ℕ → List FootItem) (footprint : List FootItem) (session : ℕ) → held session ≡ [] → holding_among held footprint session ≡ None
no_holding held footprint session none = rw (none, no_overlap footprint) refl

module _ (held : ℕ → List FootItem) (session : ℕ) (footprint : List FootItem) where
  -- the first of so many sessions, from one on
  abbrev pub search : ℕ → ℕ → Option Holding
  search from many = first_holding (filter_map (holding_among held footprint) (filter (λ other. not (other == session)) (range_with_len from many)))

  pub search-all : holder_among held session footprint ≡ search 1 SESSIONS
  unfolding holder_among
  search-all = refl

  none_step : (from many : ℕ) (b : Bool) → (from == session) ≡ b → (found : Option Holding) → holding_among held footprint from ≡ found
      → holding_of_other held session footprint from ≡ None → search from (suc many) ≡ search (from + 1) many
  none_step from many true own found is none = rw own refl
  none_step from many false other None is none = rw (other, is) refl
  none_step from many false other (Some one) is none = let never : ◌≡◌ {A = Option Holding} (Some one) None = rw (other, is) at none in cc

  some_step : (from many : ℕ) (first : Holding) (b : Bool) → (from == session) ≡ b → (found : Option Holding) → holding_among held footprint from ≡ found
      → holding_of_other held session footprint from ≡ Some first → search from (suc many) ≡ Some first
  some_step from many first true own found is some = let never : ◌≡◌ {A = Option Holding} None (Some first) = rw own at some in cc
  some_step from many first false other None is some = let never : ◌≡◌ {A = Option Holding} None (Some first) = rw (other, is) at some in cc
  some_step from many first false other (Some one) is some =
      let same : ◌≡◌ {A = Option Holding} (Some one) (Some first) = rw (other, is) at some in rw (other, is) same

  -- past a session that doesn't stand in the way
  pub search-next : (from : ℕ) → from < SESSIONS + 1 → holding_of_other held session footprint from ≡ None → search from (SESSIONS + 1 - from) ≡ search (from + 1) (SESSIONS + 1 - (from + 1))
  search-next from within none =
      let left : SESSIONS + 1 - from ≡ suc (SESSIONS + 1 - (from + 1)) = omega arith in
      ap (search from) left ∙ none_step from (SESSIONS + 1 - (from + 1)) _ refl _ refl none

  -- and at one that does
  pub search-found : (from : ℕ) (first : Holding) → from < SESSIONS + 1 → holding_of_other held session footprint from ≡ Some first → search from (SESSIONS + 1 - from) ≡ Some first
  search-found from first within some =
      let left : SESSIONS + 1 - from ≡ suc (SESSIONS + 1 - (from + 1)) = omega arith in
      ap (search from) left ∙ some_step from (SESSIONS + 1 - (from + 1)) first _ refl _ refl some

  -- and past the last one
  pub search-past : (from : ℕ) → SESSIONS + 1 ≤ from → search from (SESSIONS + 1 - from) ≡ None
  search-past from past =
      let left : SESSIONS + 1 - from ≡ 0 = omega arith in ap (search from) left

-- what is told is the first
pub told_first : (kept : List (List FootItem)) (session : ℕ) (footprint : List FootItem) (from : ℕ) (found : Option HeldItem) → from < SESSIONS + 1
    → holder_among (items_by kept) session footprint ≡ search (items_by kept) session footprint from (SESSIONS + 1 - from)
    → option_map told found ≡ holding_of_other (items_by kept) session footprint from → is_some found ≡ true
    → (held : ℕ → List FootItem) → AreHeld kept held → option_map told found ≡ holder_among held session footprint
told_first kept session footprint from None within so_far is some held are = cc
told_first kept session footprint from (Some found) within so_far is some held are =
    sym (search-found (items_by kept) session footprint from (told found) within (sym is)) ∙ (sym so_far ∙ holder-alike kept held are footprint session)

pub none_told : (kept : List (List FootItem)) (session : ℕ) (footprint : List FootItem) (from : ℕ) → SESSIONS + 1 ≤ from
    → holder_among (items_by kept) session footprint ≡ search (items_by kept) session footprint from (SESSIONS + 1 - from)
    → (held : ℕ → List FootItem) → AreHeld kept held → None ≡ holder_among held session footprint
none_told kept session footprint from past so_far held are =
    sym (search-past (items_by kept) session footprint from past) ∙ (sym so_far ∙ holder-alike kept held are footprint session)

pub none_here : (kept : List (List FootItem)) (session : ℕ) (footprint : List FootItem) (from : ℕ) (found : Option HeldItem)
    → option_map told found ≡ holding_of_other (items_by kept) session footprint from → is_some found ≡ false → holding_of_other (items_by kept) session footprint from ≡ None
none_here kept session footprint from None is none = sym is
none_here kept session footprint from (Some found) is none = cc
