-- The pairs of a value between two places.
use Rattle.std.proofs.Common.{◌≡◌, refl, sym, ◌∙◌, ap, subst, List, [], ◌∷◌, ◌++◌, ℕ, zero, suc, ◌+◌, ◌-◌, ◌<◌, ◌≤◌, length, take, drop, map, inl, inr, length-drop, length-take-le, arith}
use Rattle.std.specs.Prelude.{◌⊎◌, Bool, true, false, cond, not, ◌&&◌, filter}
use Rattle.std.specs.List.{AllByRecursion as Each}
use Rattle.std.specs.Ordering.{is_eq, is_gt, is_lt}
use Rattle.std.specs.declared.cmp.Ordering.{Ordering}
use Rattle.std.specs.declared.cmp.Ordering.TheVariants.{Less, Equal, Greater}
use Prim.Native.Nat.{min}
use Rattle.std.proofs.lemmas.Bool.{cases_lt}
use Rattle.std.proofs.lemmas.List.{length-map, take_all}
use Rattle.page_model.specs.Bound.{Divides}
use Rattle.page_model.specs.Run.{IsRunFrom}
use Rattle.page_model.proofs.BoundLemmas.{between_are}
use Rattle.page_model.proofs.Ordered.{equal_from}
use Rattle.page_model.proofs.RisingLemmas.{each_front, each_weaker}
use Rattle.ordered_pairs.specs.LeftBound.{is_before, is_upto}
use Rattle.ordered_pairs.specs.RangeOf.{IsRangeOf}
use Rattle.ordered_pairs.specs.RightsOf.{rights_of}

-- what is neither below a value nor above it has it
between : (o : Ordering) → (not (is_gt o) && not (is_lt o)) ≡ is_eq o
between Less = refl
between Equal = refl
between Greater = refl

below_upto : (o : Ordering) → is_lt o ≡ true → not (is_gt o) ≡ true
below_upto Less is = refl
below_upto Equal is = refl
below_upto Greater is = cc

-- tests that agree leave the same
filter_same : {X : Type 0} (p q : X → Bool) (xs : List X) → ((x : X) → p x ≡ q x) → filter p xs ≡ filter q xs
filter_same p q [] same = refl
filter_same p q (x ∷ xs) same = rw (same x, filter_same p q xs same) refl

-- the lower of two bounds has the lower place
nested_places : {X : Type 0} (low high : X → Bool) (xs : List X) (from upto : ℕ) → ((x : X) → low x ≡ true → high x ≡ true) → Divides low xs from → Divides high xs upto → from ≤ upto
nested_places low high xs zero upto nested lower higher = omega arith
nested_places low high [] (suc from) upto nested lower higher = absurd (let within = lower.within in omega arith)
nested_places low high (x ∷ xs) (suc from) zero nested lower higher =
    let never : true ≡ false = sym (nested x lower.before.0) ∙ higher.behind.0 in
    absurd (cc)
nested_places low high (x ∷ xs) (suc from) (suc upto) nested lower higher =
    let begin = lower.within in
    let end = higher.within in
    let more = nested_places low high xs from upto nested (record { within = omega arith; before = lower.before.1; behind = lower.behind }) (record { within = omega arith; before = higher.before.1; behind = higher.behind }) in
    omega (arith, more)

module _ {A B : Type 0} (left : A → A → Ordering) (pairs : List (A × B)) (one : A) where
  -- so the pairs of a value stand between the places of two bounds
  pub range_between : (from upto : ℕ) → Divides (is_before left one) pairs from → Divides (is_upto left one) pairs upto → IsRangeOf left pairs one from upto
  range_between from upto lower higher = record {
    begins = nested_places (is_before left one) (is_upto left one) pairs from upto (λ pair. below_upto (left pair.0 one)) lower higher;
    ends = higher.within;
    are = filter_same (λ pair. is_eq (left pair.0 one)) (λ pair. is_upto left one pair && not (is_before left one pair)) pairs (λ pair. sym (between (left pair.0 one)))
        ∙ between_are (is_before left one) (is_upto left one) pairs from upto (λ pair. below_upto (left pair.0 one)) lower higher;
  }

-- some of what two lists hold one behind the other
take_some : {X : Type 0} (count : ℕ) (run rest : List X) → (others : List X) × (take count (run ++ rest) ≡ take count run ++ others)
take_some count [] rest = (take count rest, none count)
  where
    none : (n : ℕ) → take n rest ≡ take n [] ++ take n rest
    none zero = refl
    none (suc n) = refl
take_some zero (x ∷ run) rest = ([], refl)
take_some (suc count) (x ∷ run) rest = let more = take_some count run rest in (more.0, ap (λ xs. x ∷ xs) more.1)

map_append : {X Y : Type 0} (f : X → Y) (xs ys : List X) → map f (xs ++ ys) ≡ map f xs ++ map f ys
map_append f [] ys = refl
map_append f (x ∷ xs) ys = ap (λ zs. f x ∷ zs) (map_append f xs ys)

drop_map : {X Y : Type 0} (f : X → Y) (n : ℕ) (xs : List X) → drop n (map f xs) ≡ map f (drop n xs)
drop_map f zero xs = refl
drop_map f (suc n) [] = refl
drop_map f (suc n) (x ∷ xs) = drop_map f n xs

-- what stands from a place on, up to another
drop_take : {X : Type 0} (from count : ℕ) (xs : List X) → drop from (take (from + count) xs) ≡ take count (drop from xs)
drop_take zero count xs = ap (λ n. take n xs) (let same : 0 + count ≡ count = omega arith in same)
drop_take {X} (suc from) count [] = ap (λ n. drop (suc from) (take n [])) (let same : suc from + count ≡ suc (from + count) = omega arith in same) ∙ none count
  where
    none : (n : ℕ) → ◌≡◌ {A = List X} [] (take n [])
    none zero = refl
    none (suc n) = refl
drop_take (suc from) count (x ∷ xs) = ap (λ n. drop (suc from) (take n (x ∷ xs))) (let same : suc from + count ≡ suc (from + count) = omega arith in same) ∙ drop_take from count xs

drop_twice : {X : Type 0} (n m : ℕ) (xs : List X) → drop n (drop m xs) ≡ drop (m + n) xs
drop_twice n zero xs = ap (λ k. drop k xs) (let same : n ≡ 0 + n = omega arith in same)
drop_twice {X} n (suc m) [] = none n ∙ ap (λ k. drop k []) (let same : suc (m + n) ≡ suc m + n = omega arith in same)
  where
    none : (k : ℕ) → ◌≡◌ {A = List X} (drop k []) (drop (suc (m + k)) [])
    none zero = refl
    none (suc k) = refl
drop_twice n (suc m) (x ∷ xs) = drop_twice n m xs ∙ ap (λ k. drop k (x ∷ xs)) (let same : suc (m + n) ≡ suc m + n = omega arith in same)

-- the lesser of two is one of them
lesser : (a b count : ℕ) → count ≡ min a b → ((count ≡ a) × (a ≤ b)) ⊎ ((count ≡ b) × (b ≤ a))
lesser a b count is = elim (cases_lt a b) [ inl less ↦ inl (omega (arith, is), omega arith) | inr more ↦ inr (omega (arith, is), more) ]

-- what a run of a list is of what is made of each, and what holds in it
run_map : {X Y : Type 0} (f : X → Y) (xs : List X) (place : ℕ) (run : List X) → IsRunFrom xs place run → IsRunFrom (map f xs) place (map f run)
run_map f xs place run is = record {
  rest = map f is.rest;
  follow = drop_map f place xs ∙ (ap (map f) is.follow ∙ map_append f run is.rest);
  some = λ within. let there = is.some (omega (arith, length-map xs f)) in omega (arith, there, length-map run f);
}

each_drop : {X : Type 0} (P : X → Type 0) (n : ℕ) (xs : List X) → Each P xs → Each P (drop n xs)
each_drop P zero xs all = all
each_drop P (suc n) [] all = tt
each_drop P (suc n) (x ∷ xs) all = each_drop P n xs all.1

each_run : {X : Type 0} (P : X → Type 0) (xs : List X) (place : ℕ) (run : List X) → Each P xs → IsRunFrom xs place run → Each P run
each_run P xs place run all is = each_front P run is.rest (subst (Each P) is.follow (each_drop P place xs all))

-- all that a filter leaves passes
each_passes : {X : Type 0} (p : X → Bool) (xs : List X) → Each (λ x. p x ≡ true) (filter p xs)
each_passes p [] = tt
each_passes p (x ∷ xs) = by (p x) refl (each_passes p xs)
  where
    by : (b : Bool) → p x ≡ b → Each (λ x. p x ≡ true) (filter p xs) → Each (λ x. p x ≡ true) (cond b (x ∷ filter p xs) (filter p xs))
    by true is more = (is, more)
    by false is more = more

module _ {A B : Type 0} (left : A → A → Ordering) (pairs : List (A × B)) (one : A) (from upto : ℕ) (range : IsRangeOf left pairs one from upto) where
  -- how many there are
  pub rights_length : length (rights_of left pairs one) ≡ upto - from
  unfolding rights_of
  rights_length =
      ap (λ xs. length (map (λ (pair : A × B). pair.1) xs)) range.are
      ∙ (length-map (drop from (take upto pairs)) (λ (pair : A × B). pair.1) ∙ omega (arith, range.ends, length-drop from (take upto pairs), length-take-le upto pairs range.ends))

  -- no run past the end
  pub run_past : (place : ℕ) → upto - from ≤ place → IsRunFrom (rights_of left pairs one) place []
  unfolding rights_of
  run_past place past = record { rest = drop place (rights_of left pairs one); follow = refl; some = λ within. absurd (let long = rights_length in omega arith) }

  -- and what of a run of pairs has the value
  run_of_pairs : (place : ℕ) (run : List (A × B)) (count : ℕ) → place < upto - from → IsRunFrom pairs (from + place) run → ((count ≡ length run) × (length run ≤ upto - from - place)) ⊎ ((count ≡ upto - from - place) × (upto - from - place ≤ length run))
      → IsRunFrom (filter (λ pair. is_eq (left pair.0 one)) pairs) place (take count run)
  run_of_pairs place run count within is least =
      let left_over = upto - from - place in
      let begin = from + place in
      let all : upto ≡ begin + left_over = omega (arith, range.begins) in
      let parts = take_some left_over run is.rest in
      let same : take left_over run ≡ take count run = elim least [
        | inl whole ↦ take_all left_over run whole.1 ∙ sym (take_all count run (omega (arith, whole.0)))
        | inr part ↦ ap (λ n. take n run) (sym part.0)
      ] in
      let fits : count ≤ length run = elim least [ inl whole ↦ omega (arith, whole.0) | inr part ↦ omega (arith, part.0, part.1) ] in
      let counted : length (take count run) ≡ count = length-take-le count run fits in
      record {
        rest = parts.0;
        follow = ap (drop place) range.are
            ∙ (drop_twice place from (take upto pairs) ∙ (ap (λ n. drop begin (take n pairs)) all ∙ (drop_take begin left_over pairs ∙ (ap (take left_over) is.follow ∙ (parts.1 ∙ ap (λ xs. xs ++ parts.0) same)))));
        some = λ _. let there : 0 < length run = is.some (omega (arith, range.ends)) in elim least [ inl whole ↦ omega (arith, whole.0) | inr part ↦ omega (arith, part.0) ];
      }

  pub run_within : (place : ℕ) (run : List (A × B)) (count : ℕ) → place < upto - from → IsRunFrom pairs (from + place) run → count ≡ min (length run) (upto - from - place)
      → IsRunFrom (rights_of left pairs one) place (map (λ pair. pair.1) (take count run))
  unfolding rights_of
  run_within place run count within is least = run_map (λ (pair : A × B). pair.1) (filter (λ pair. is_eq (left pair.0 one)) pairs) place (take count run) (run_of_pairs place run count within is (lesser (length run) (upto - from - place) count least))

  pub run_left : (exact : (one other : A) → left one other ≡ Equal → one ≡ other) (place : ℕ) (run : List (A × B)) (count : ℕ) → place < upto - from → IsRunFrom pairs (from + place) run
      → count ≡ min (length run) (upto - from - place) → Each (λ pair. pair.0 ≡ one) (take count run)
  run_left exact place run count within is least =
      let has : A × B → Bool = λ pair. is_eq (left pair.0 one) in
      each_weaker _ _ (λ pair passes. exact pair.0 one (equal_from _ passes)) (take count run)
      (each_run (λ pair. has pair ≡ true) (filter has pairs) place (take count run) (each_passes has pairs) (run_of_pairs place run count within is (lesser (length run) (upto - from - place) count least)))
