-- Items of which none overlaps another: a relation that goes both ways.
use Rattle.std.proofs.Common.{◌≡◌, ℕ, List, [], ◌∷◌, ◌++◌, Bool, true, false, refl, ap, sym, ◌∙◌, eq-eqb}
use Rattle.std.specs.Prelude.{◌||◌, ◌&&◌, ◌==◌, Option, None, Some}
use Rattle.std.specs.List.{AllByRecursion, list_any}
use Rattle.std.proofs.lemmas.Bool.{eqb-false, eqb-true, ne_eqb, or_from, or_parts}
use Rattle.std.proofs.Math.Bool.{or_comm}
use Rattle.own_base.specs.declared.value.Key.{Key}
use Rattle.own_model.specs.declared.footprint.FootItem.{FootItem}
use Rattle.run_model.specs.Agree.{keys_meet, overlaps}
use Rattle.run_model.proofs.Overlaps.{keys_back}
use Rattle.schema_model.proofs.Places.{all-append}

-- whether two numbers are one, whichever is named first
eqb_back : (one other : ℕ) → (one == other) ≡ (other == one)
eqb_back one other = by (one == other) refl
  where
    by : (b : Bool) → (one == other) ≡ b → (one == other) ≡ (other == one)
    by true is = is ∙ sym (eq-eqb other one (sym (eqb-true one other is)))
    by false is = is ∙ sym (ne_eqb other one (λ same. eqb-false one other is (sym same)))

-- and whether two keys meet
meet-back : (one other : Option Key) → keys_meet one other ≡ keys_meet other one
meet-back None None = refl
meet-back None (Some key) = refl
meet-back (Some key) None = refl
meet-back (Some key) (Some other) = keys_back other key

-- and whether two items overlap
pub overlaps-back : (item other : FootItem) → overlaps item other ≡ overlaps other item
overlaps-back item other =
    ap (λ b. (b && keys_meet item.key other.key) && (item.write || other.write)) (eqb_back item.table.0 other.table.0)
    ∙ (ap (λ b. (other.table.0 == item.table.0 && b) && (item.write || other.write)) (meet-back item.key other.key)
    ∙ ap (λ b. (other.table.0 == item.table.0 && keys_meet other.key item.key) && b) (or_comm item.write other.write))

-- an item overlaps none of some
abbrev pub IsFree : List FootItem → FootItem → Type 0
IsFree others item = list_any (overlaps item) others ≡ false

-- nor does one of those overlap it
pub free-back : (item : FootItem) (others : List FootItem) → IsFree others item → list_any (λ own. overlaps own item) others ≡ false
free-back item [] free = refl
free-back item (other ∷ others) free =
    let both = or_parts _ _ free in
    or_from _ _ (overlaps-back other item ∙ both.0) (free-back item others both.1)

-- and none of some overlaps one of others
abbrev pub AreApart : List FootItem → List FootItem → Type 0
AreApart items others = AllByRecursion (IsFree others) items

pub apart-none : (items : List FootItem) → AreApart items []
apart-none [] = tt
apart-none (item ∷ items) = (refl, apart-none items)

-- one item more on the other side
apart-cons : (item : FootItem) (items others : List FootItem) → AllByRecursion (λ other. overlaps other item ≡ false) others → AreApart others items
    → AreApart others (item ∷ items)
apart-cons item items [] free apart = tt
apart-cons item items (other ∷ others) free apart = (or_from _ _ free.0 apart.0, apart-cons item items others free.1 apart.1)

free-each : (item : FootItem) (others : List FootItem) → IsFree others item → AllByRecursion (λ other. overlaps other item ≡ false) others
free-each item [] free = tt
free-each item (other ∷ others) free =
    let both = or_parts _ _ free in
    (overlaps-back other item ∙ both.0, free-each item others both.1)

-- which side is named first doesn't matter
pub apart-back : (items others : List FootItem) → AreApart items others → AreApart others items
apart-back [] others apart = apart-none others
apart-back (item ∷ items) others apart = apart-cons item items others (free-each item others apart.0) (apart-back items others apart.1)

-- with more items on one side
pub apart-append : (items more others : List FootItem) → AreApart items others → AreApart more others → AreApart (items ++ more) others
apart-append items more others = all-append (IsFree others) items more
