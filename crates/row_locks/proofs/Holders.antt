-- Items that represent others, and the sessions that hold them.
use Rattle.std.proofs.Common.{◌≡◌, ℕ, List, [], ◌∷◌, ◌++◌, ◌≢◌, ◌==◌, Bool, true, false, refl, sym, ap, ◌∙◌, ◌||◌, subst}
use Rattle.std.specs.Prelude.{filter_map, if◌then◌else◌}
use Rattle.std.specs.List.{list_any}
use Rattle.std.proofs.lemmas.Bool.{eqb-false, eqb-true}
use Rattle.std.proofs.lemmas.List.Folds.{list_any-append}
use Rattle.own_base.specs.declared.row_name.RowName.{RowName}
use Rattle.own_model.specs.declared.footprint.FootItem.{FootItem}
use Rattle.run_model.specs.Agree.{overlaps}
use Rattle.history_model.specs.Held.{first_holding, first_overlap, held, holder, others}
use Rattle.history_model.specs.History.{lie_on}
use Rattle.history_model.specs.World.{World}
use Rattle.row_locks.specs.RepresentsItems.{AreHeld, RepresentsItems, holder_among, holding_among}
use Rattle.row_locks.specs.SessionItems.{items_by}
use Rattle.row_locks.proofs.TableItems.{lies_any, named}

-- items represent themselves
pub stand-same : (items : List FootItem) → RepresentsItems items items
stand-same items = record { overlap = λ item. refl; lie = λ name. refl }

-- where the same items overlap them, the same names lie on them
pub stand-overlaps : (kept items : List FootItem) → ((item : FootItem) → list_any (overlaps item) kept ≡ list_any (overlaps item) items) → RepresentsItems kept items
stand-overlaps kept items same = record { overlap = same; lie = λ name. lies_any name kept ∙ (same (named name) ∙ sym (lies_any name items)) }

-- items more
pub stand-more : (kept more items footprint : List FootItem) → ((item : FootItem) → list_any (overlaps item) more ≡ (list_any (overlaps item) kept || list_any (overlaps item) footprint))
    → RepresentsItems kept items → RepresentsItems more (items ++ footprint)
stand-more kept more items footprint holds stands =
    stand-overlaps more (items ++ footprint) (λ item. holds item ∙ (ap (λ (b : Bool). b || list_any (overlaps item) footprint) (stands.overlap item) ∙ sym (list_any-append (overlaps item) items footprint)))

-- the first item in whose way they stand is the same
pub overlap-alike : (kept items : List FootItem) (footprint : List FootItem) → RepresentsItems kept items → first_overlap kept footprint ≡ first_overlap items footprint
overlap-alike kept items [] stands = refl
overlap-alike kept items (item ∷ footprint) stands = rw (stands.overlap item, overlap-alike kept items footprint stands) refl

-- and whether one of some names lies on them
pub lie-alike : (kept items : List FootItem) (names : List RowName) → RepresentsItems kept items → lie_on names kept ≡ lie_on names items
lie-alike kept items [] stands = refl
lie-alike kept items (name ∷ names) stands = rw (stands.lie name, lie-alike kept items names stands) refl

module _ (kept : List (List FootItem)) (held : ℕ → List FootItem) (are : AreHeld kept held) (footprint : List FootItem) where
  holdings-alike : (sessions : List ℕ) → filter_map (holding_among (items_by kept) footprint) sessions ≡ filter_map (holding_among held footprint) sessions
  holdings-alike [] = refl
  holdings-alike (session ∷ sessions) = rw (overlap-alike (items_by kept session) (held session) footprint (are session), holdings-alike sessions) refl

  -- the holder is the same
  pub holder-alike : (session : ℕ) → holder_among (items_by kept) session footprint ≡ holder_among held session footprint
  unfolding holder_among
  holder-alike session = ap first_holding (holdings-alike (others session))

-- the holder among what the sessions of a world hold is the world's
pub holder-of_world : (world : World) (session : ℕ) (footprint : List FootItem) → holder_among (held world) session footprint ≡ holder world session footprint
unfolding holder_among holder
holder-of_world world session footprint = refl

-- no name lies on nothing
pub none_lie : (names : List RowName) → lie_on names [] ≡ false
none_lie [] = refl
none_lie (name ∷ names) = none_lie names

pub lie-none : (kept items : List FootItem) (names : List RowName) → kept ≡ [] → RepresentsItems kept items → lie_on names items ≡ false
lie-none kept items names none stands = sym (lie-alike kept items names stands) ∙ (ap (lie_on names) none ∙ none_lie names)

-- nothing is kept where nobody holds anything
pub held-none : AreHeld [] (λ session. [])
held-none = λ session. stand-same []

-- where what is kept is as it was it represents what it represented, as after a refused grant
pub held-unchanged : (before after : List (List FootItem)) (held : ℕ → List FootItem) → ((number : ℕ) → items_by after number ≡ items_by before number) → AreHeld before held → AreHeld after held
held-unchanged before after held same are = λ session. subst (λ some. RepresentsItems some (held session)) (sym (same session)) (are session)

-- A session that is granted a footprint holds it besides, and one that is released holds nothing; the others hold what they held.
module _ (before after : List (List FootItem)) (held : ℕ → List FootItem) (are : AreHeld before held) (session : ℕ) (others : (other : ℕ) → other ≢ session → items_by after other ≡ items_by before other) where
  held-with : (items : List FootItem) → RepresentsItems (items_by after session) items → AreHeld after (λ other. if other == session then items else held other)
  held-with items own other = by (other == session) refl
    where
      by : (b : Bool) → (other == session) ≡ b → RepresentsItems (items_by after other) (if b then items else held other)
      by true same = subst (λ n. RepresentsItems (items_by after n) items) (sym (eqb-true other session same)) own
      by false apart = subst (λ some. RepresentsItems some (held other)) (sym (others other (eqb-false other session apart))) (are other)

  pub held-granted : (footprint : List FootItem) → ((items : List FootItem) → RepresentsItems (items_by before session) items → RepresentsItems (items_by after session) (items ++ footprint))
      → AreHeld after (λ other. if other == session then held session ++ footprint else held other)
  held-granted footprint grants = held-with (held session ++ footprint) (grants (held session) (are session))

  pub held-released : items_by after session ≡ [] → AreHeld after (λ other. if other == session then [] else held other)
  held-released nothing = held-with [] (subst (λ some. RepresentsItems some []) (sym nothing) (stand-same []))
