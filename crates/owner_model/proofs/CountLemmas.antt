-- How many elements of a list pass a test.
use Rattle.std.proofs.Common.{◌≡◌, ℕ, zero, suc, ◌+◌, ◌<◌, ◌≤◌, List, [], ◌∷◌, Bool, true, false, refl, ap, ◌∙◌, inl, inr, arith, eq-eqb}
use Rattle.std.specs.Prelude.{◌==◌, Option, Some, None, cond, count_by, slice_get}
use Rattle.std.specs.List.{range_with_len}
use Rattle.std.proofs.lemmas.Bool.{cases_eq, ne_eqb}
use Rattle.std.proofs.lemmas.List.Sums.{sum_by-cons}

module _ {X : Type 0} (p : X → Bool) where
  -- one that passes is counted
  pub count_by-passes : (x : X) (xs : List X) → p x ≡ true → count_by p (x ∷ xs) ≡ 1 + count_by p xs
  count_by-passes x xs passes = sum_by-cons (λ y. cond (p y) 1 0) x xs ∙ rw passes refl

  -- one that fails isn't
  pub count_by-fails : (x : X) (xs : List X) → p x ≡ false → count_by p (x ∷ xs) ≡ count_by p xs
  count_by-fails x xs fails = sum_by-cons (λ y. cond (p y) 1 0) x xs ∙ rw fails (omega arith)

  -- with one more there are no fewer
  pub count_by-rest : (x : X) (xs : List X) → count_by p xs ≤ count_by p (x ∷ xs)
  count_by-rest x xs = omega (arith, sum_by-cons (λ y. cond (p y) 1 0) x xs)

  -- where one passes, one is counted
  pub count_by-one : (xs : List X) (place : ℕ) (found : X) → slice_get xs place ≡ Some found → p found ≡ true → 1 ≤ count_by p xs
  count_by-one [] place found at passes = let never : ◌≡◌ {A = Option X} None (Some found) = at in cc
  count_by-one (x ∷ xs) zero found at passes = let same : x ≡ found = cc in omega (arith, count_by-passes x xs (ap p same ∙ passes))
  count_by-one (x ∷ xs) (suc place) found at passes = omega (arith, count_by-rest x xs, count_by-one xs place found at passes)

  -- and where one passes at two places, two
  pub count_by-two : (xs : List X) (one two : ℕ) (found : X) → one < two → slice_get xs one ≡ Some found → slice_get xs two ≡ Some found → p found ≡ true → 2 ≤ count_by p xs
  count_by-two [] one two found before at_one at_two passes = let never : ◌≡◌ {A = Option X} None (Some found) = at_one in cc
  count_by-two (x ∷ xs) one zero found before at_one at_two passes = absurd (omega arith)
  count_by-two (x ∷ xs) zero (suc two) found before at_one at_two passes =
      let same : x ≡ found = cc in omega (arith, count_by-passes x xs (ap p same ∙ passes), count_by-one xs two found at_two passes)
  count_by-two (x ∷ xs) (suc one) (suc two) found before at_one at_two passes = omega (arith, count_by-rest x xs, count_by-two xs one two found (omega arith) at_one at_two passes)

-- a range has no number below its first
count_below : (n first count : ℕ) → n < first → count_by (λ x. x == n) (range_with_len first count) ≡ 0
count_below n first zero below = refl
count_below n first (suc count) below =
    count_by-fails (λ x. x == n) first (range_with_len (first + 1) count) (ne_eqb first n (λ same. omega arith)) ∙ count_below n (first + 1) count (omega arith)

-- and each number once at most
pub count_in_range : (n first count : ℕ) → count_by (λ x. x == n) (range_with_len first count) ≤ 1
count_in_range n first zero = omega arith
count_in_range n first (suc count) =
    elim (cases_eq first n) [
      | inl same ↦ omega (arith, count_by-passes (λ x. x == n) first (range_with_len (first + 1) count) (eq-eqb first n same), count_below n (first + 1) count (omega arith))
      | inr other ↦ omega (arith, count_by-fails (λ x. x == n) first (range_with_len (first + 1) count) (ne_eqb first n other), count_in_range n (first + 1) count)
    ]
