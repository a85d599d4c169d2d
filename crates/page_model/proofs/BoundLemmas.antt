-- Where a bound divides items whose keys rise.
use Rattle.std.proofs.Common.{◌≡◌, refl, sym, ◌∙◌, ap, subst, inl, inr, List, [], ◌∷◌, ◌++◌, ℕ, zero, suc, ◌+◌, ◌-◌, ◌<◌, ◌≤◌, length, take, drop, get_or, append-nil, length-append, length-take-le, take-append-drop, arith}
use Rattle.std.specs.Prelude.{Bool, true, false, not, ◌&&◌}
use Rattle.std.specs.Cmp.{IsTotalOrder}
use Rattle.std.specs.List.{AllByRecursion as Each, filter}
use Rattle.std.specs.List.Sorted.{IsPartitionedBy, IsPartitionPoint}
use Rattle.std.specs.declared.cmp.Ordering.{Ordering}
use Rattle.std.specs.declared.cmp.Ordering.TheVariants.{Less}
use Rattle.std.proofs.lemmas.Bool.{cases_eq}
use Rattle.std.proofs.lemmas.List.Elements.{filter-append}
use Rattle.page_model.specs.Bound.{Divides, IsMonotone}
use Rattle.page_model.specs.Rising.{IsRising}
use Rattle.page_model.proofs.ChangedLemmas.{filter_all, filter_none}
use Rattle.page_model.proofs.PlaceLemmas.{passing_back, passing_front, rising_places}
use Rattle.page_model.proofs.RisingLemmas.{each_append, each_weaker, rising_before, rising_behind, rising_tail}

module _ {T : Type 0} (below : T → Bool) where
  -- the items below a bound are those before the place, and the others those from it on
  pub below_are : (xs : List T) (place : ℕ) → Divides below xs place → filter below xs ≡ take place xs
  below_are xs place divides =
      ap (filter below) (sym (take-append-drop place xs))
      ∙ (filter-append below (take place xs) (drop place xs)
      ∙ (ap (λ front. front ++ filter below (drop place xs)) (filter_all below (take place xs) divides.before)
      ∙ (ap (λ back. take place xs ++ back) (filter_none below (drop place xs) divides.behind) ∙ append-nil (take place xs))))

  pub others_are : (xs : List T) (place : ℕ) → Divides below xs place → filter (λ x. not (below x)) xs ≡ drop place xs
  others_are xs place divides =
      let fails : Each (λ x. not (below x) ≡ false) (take place xs) = each_weaker _ _ (λ x is. ap not is) (take place xs) divides.before in
      let passes : Each (λ x. not (below x) ≡ true) (drop place xs) = each_weaker _ _ (λ x is. ap not is) (drop place xs) divides.behind in
      ap (filter (λ x. not (below x))) (sym (take-append-drop place xs))
      ∙ (filter-append (λ x. not (below x)) (take place xs) (drop place xs)
      ∙ (ap (λ front. front ++ filter (λ x. not (below x)) (drop place xs)) (filter_none (λ x. not (below x)) (take place xs) fails)
      ∙ filter_all (λ x. not (below x)) (drop place xs) passes))

  -- so the place is how many are below it
  pub place_counts : (xs : List T) (place : ℕ) → Divides below xs place → place ≡ length (filter below xs)
  place_counts xs place divides = sym (ap length (below_are xs place divides) ∙ length-take-le place xs divides.within)

  -- behind items that are all below it, and before items of which none is
  pub divides_behind : (front xs : List T) (place : ℕ) → Each (λ x. below x ≡ true) front → Divides below xs place → Divides below (front ++ xs) (length front + place)
  divides_behind [] xs place all divides = subst (Divides below xs) (let same : place ≡ 0 + place = omega arith in same) divides
  divides_behind (x ∷ front) xs place all divides =
      let more = divides_behind front xs place all.1 divides in
      subst (Divides below (x ∷ (front ++ xs))) (let same : suc (length front + place) ≡ suc (length front) + place = omega arith in same)
      (record { within = omega (arith, more.within); before = (all.0, more.before); behind = more.behind })

  pub divides_front : (xs back : List T) (place : ℕ) → Each (λ x. below x ≡ false) back → Divides below xs place → Divides below (xs ++ back) place
  divides_front xs back zero none divides = record { within = omega arith; before = tt; behind = each_append _ xs back divides.behind none }
  divides_front [] back (suc place) none divides = absurd (let within = divides.within in omega arith)
  divides_front (x ∷ xs) back (suc place) none divides =
      let within = divides.within in
      let more = divides_front xs back place none (record { within = omega arith; before = divides.before.1; behind = divides.behind }) in
      record { within = omega (arith, more.within); before = (divides.before.0, more.before); behind = more.behind }

-- between two bounds, of which the first is the lower, stand the items from the first's place up to the second's
pub between_are : {T : Type 0} (low high : T → Bool) (xs : List T) (from to : ℕ) → ((x : T) → low x ≡ true → high x ≡ true) → Divides low xs from → Divides high xs to
    → filter (λ x. high x && not (low x)) xs ≡ drop from (take to xs)
between_are low high [] zero zero nested lower higher = refl
between_are low high [] zero (suc to) nested lower higher = refl
between_are low high [] (suc from) zero nested lower higher = refl
between_are low high [] (suc from) (suc to) nested lower higher = refl
between_are low high (x ∷ xs) zero zero nested lower higher = filter_none (λ y. high y && not (low y)) (x ∷ xs) (each_weaker _ _ (λ y fails. ap (λ b. b && not (low y)) fails) (x ∷ xs) higher.behind)
between_are low high (x ∷ xs) zero (suc to) nested lower higher =
    let fails = lower.behind.0 in
    let passes = higher.before.0 in
    let within = higher.within in
    rw (passes, fails)
    (ap (λ ys. x ∷ ys)
    (between_are low high xs zero to nested (record { within = omega arith; before = tt; behind = lower.behind.1 }) (record { within = omega arith; before = higher.before.1; behind = higher.behind })))
between_are low high (x ∷ xs) (suc from) zero nested lower higher =
    let never : true ≡ false = sym (nested x lower.before.0) ∙ higher.behind.0 in
    cc
between_are low high (x ∷ xs) (suc from) (suc to) nested lower higher =
    let first = lower.before.0 in
    let passes = higher.before.0 in
    let within = higher.within in
    let begin = lower.within in
    rw (passes, first)
    (between_are low high xs from to nested (record { within = omega arith; before = lower.before.1; behind = lower.behind }) (record { within = omega arith; before = higher.before.1; behind = higher.behind }))

module _ {T K : Type 0} (key_of : T → K) {cmp : K → K → Ordering} (order : IsTotalOrder cmp) (below : T → Bool) (monotone : IsMonotone key_of cmp below) where
  -- before an item that is below the bound all are, and behind one that isn't none is
  pub below_before : (xs : List T) (y : T) (ys : List T) → IsRising key_of cmp (xs ++ y ∷ ys) → below y ≡ true → Each (λ x. below x ≡ true) xs
  below_before xs y ys rising passes = each_weaker _ _ (λ x less. monotone x y less passes) xs (rising_before key_of cmp xs y ys rising)

  fails_above : (y z : T) → cmp (key_of y) (key_of z) ≡ Less → below y ≡ false → (b : Bool) → below z ≡ b → below z ≡ false
  fails_above y z less fails true passes = let never : true ≡ false = sym (monotone y z less passes) ∙ fails in cc
  fails_above y z less fails false is = is

  pub none_behind : (y : T) (ys : List T) → IsRising key_of cmp (y ∷ ys) → below y ≡ false → Each (λ x. below x ≡ false) (y ∷ ys)
  none_behind y ys rising fails = (fails, each_weaker _ _ (λ z less. fails_above y z less fails (below z) refl) ys (rising_behind key_of cmp y ys rising))

  -- so no item below the bound comes behind one that isn't
  pub below_partitioned : (xs : List T) → IsRising key_of cmp xs → IsPartitionedBy below xs
  below_partitioned xs rising i j d upto within passes = elim (cases_eq i j) [
    | inl same ↦ subst (λ n. below (get_or xs n d) ≡ true) (sym same) passes
    | inr other ↦ monotone (get_or xs i d) (get_or xs j d) (rising_places key_of order xs i j d (omega arith) within rising) passes
  ]

  -- and the bound divides the items
  pub divides_there : (xs : List T) → IsRising key_of cmp xs → Divides below xs (length (filter below xs))
  divides_there [] rising = record { within = omega arith; before = tt; behind = tt }
  divides_there (x ∷ xs) rising = by (divides_there xs (rising_tail key_of cmp x xs rising)) (below x) refl
    where
      by : Divides below xs (length (filter below xs)) → (b : Bool) → below x ≡ b → Divides below (x ∷ xs) (length (filter below (x ∷ xs)))
      by more true passes = rw passes (record { within = omega (arith, more.within); before = (passes, more.before); behind = more.behind })
      by more false fails =
          let none = none_behind x xs rising fails in
          subst (λ ys. Divides below (x ∷ xs) (length ys)) (sym (filter_none below (x ∷ xs) none)) (record { within = omega arith; before = tt; behind = none })

-- the point at which a search by halves stops
pub divides_from_partition : {T : Type 0} (below : T → Bool) (xs : List T) (place : ℕ) → place ≤ length xs
    → IsPartitionPoint (λ x. below x ≡ true) (λ x. below x ≡ false) xs place → Divides below xs place
divides_from_partition below xs place within point =
    record {
      within = within;
      before = passing_front (λ x. below x ≡ true) xs place within point.0;
      behind = passing_back (λ x. below x ≡ false) xs place point.1;
    }
