-- Searching the sessions by rising number.
use Rattle.std.proofs.Common.{◌≡◌, ℕ, suc, ◌+◌, ◌-◌, ◌<◌, ◌≤◌, Bool, true, false, Option, None, Some, refl, ap, ◌∙◌, arith, ◌==◌}
use Rattle.std.specs.Prelude.{◌&&◌, filter, find, not}
use Rattle.std.specs.List.{range_with_len}
use Rattle.own_model.specs.declared.limit.TheConstants.{SESSIONS}
use Rattle.history_model.specs.Held.{others}

module _ (test : ℕ → Bool) (session : ℕ) where
  -- the first of so many sessions, from one on, that isn't the one and passes
  abbrev pub search : ℕ → ℕ → Option ℕ
  search from many = find test (filter (λ other. not (other == session)) (range_with_len from many))

  pub search-all : find test (others session) ≡ search 1 SESSIONS
  search-all = refl

  none_step : (from many : ℕ) (own is : Bool) → (from == session) ≡ own → test from ≡ is → (not own && is) ≡ false → search from (suc many) ≡ search (from + 1) many
  none_step from many true is here passes none = rw here refl
  none_step from many false true other passes none = let never : true ≡ false = none in absurd (cc)
  none_step from many false false other passes none = rw (other, passes) refl

  some_step : (from many : ℕ) (own is : Bool) → (from == session) ≡ own → test from ≡ is → (not own && is) ≡ true → search from (suc many) ≡ Some from
  some_step from many true is here passes some = let never : false ≡ true = some in absurd (cc)
  some_step from many false false other passes some = let never : false ≡ true = some in absurd (cc)
  some_step from many false true other passes some = rw (other, passes) refl

  -- past one that doesn't pass
  pub search-next : (from : ℕ) → from < SESSIONS + 1 → (not (from == session) && test from) ≡ false → search from (SESSIONS + 1 - from) ≡ search (from + 1) (SESSIONS + 1 - (from + 1))
  search-next from within none =
      let left : SESSIONS + 1 - from ≡ suc (SESSIONS + 1 - (from + 1)) = omega arith in
      ap (search from) left ∙ none_step from (SESSIONS + 1 - (from + 1)) _ _ refl refl none

  -- at one that does
  pub search-found : (from : ℕ) → from < SESSIONS + 1 → (not (from == session) && test from) ≡ true → search from (SESSIONS + 1 - from) ≡ Some from
  search-found from within some =
      let left : SESSIONS + 1 - from ≡ suc (SESSIONS + 1 - (from + 1)) = omega arith in
      ap (search from) left ∙ some_step from (SESSIONS + 1 - (from + 1)) _ _ refl refl some

  -- and past the last one
  pub search-past : (from : ℕ) → SESSIONS + 1 ≤ from → search from (SESSIONS + 1 - from) ≡ None
  search-past from past = let left : SESSIONS + 1 - from ≡ 0 = omega arith in ap (search from) left
