-- Sums and products of numbers as far as 64 bits tell them.
use Rattle.std.proofs.Common.{◌≡◌, ℕ, zero, suc, ◌+◌, ◌*◌, ◌-◌, ◌^◌, ◌≤◌, List, get_or, take, inl, inr, sym, ap, ◌∙◌, arith}
use Rattle.std.specs.Prelude.{Some, slice_get, sum_by}
use Rattle.std.proofs.lemmas.Bool.{cases_lt}
use Rattle.std.proofs.lemmas.List.Sums.{sum_by_more}
use Rattle.std.proofs.lemmas.Option.{get_or_from_slice_get, slice_get_within}
use Rattle.commit_check.specs.Saturated.{saturated}

-- a sum of two is that of the numbers
pub saturated-sum : (a b : ℕ) → saturated (saturated a + saturated b) ≡ saturated (a + b)
saturated-sum a b = omega arith

-- and so is one of which one is reported whole
pub saturated-add : (a b : ℕ) → saturated (saturated a + b) ≡ saturated (a + b)
saturated-add a b = omega arith

less_step : (a b : ℕ) → a ≤ 2 ^ 64 - 1 → saturated (saturated a * suc b) ≡ saturated (a * suc b)
less_step a b less = let same : saturated a ≡ a = omega arith in ap (λ n. saturated (n * suc b)) same

more_step : (a b : ℕ) → 2 ^ 64 - 1 ≤ a → saturated (saturated a * suc b) ≡ saturated (a * suc b)
more_step a b more =
    let most : saturated a ≡ 2 ^ 64 - 1 = omega arith in
    ap (λ n. saturated (n * suc b)) most ∙ (omega arith)

-- and a product
pub saturated-mul : (a b : ℕ) → saturated (saturated a * b) ≡ saturated (a * b)
saturated-mul a zero =
    let one : saturated a * zero ≡ 0 = omega arith in let other : a * zero ≡ 0 = omega arith in
    ap saturated one ∙ ap saturated (sym other)
saturated-mul a (suc b) = elim (cases_lt a (2 ^ 64 - 1)) [ inl less ↦ less_step a b (omega arith) | inr more ↦ more_step a b more ]

-- with one element more counted
pub counted-more : {X : Type 0} (f : X → ℕ) (xs : List X) (place : ℕ) (x : X) (total size new : ℕ) → slice_get xs place ≡ Some x → total ≡ saturated (sum_by f (take place xs))
    → size ≡ saturated (f x) → new ≡ saturated (total + size) → new ≡ saturated (sum_by f (take (place + 1) xs))
counted-more f xs place x total size new is before own made =
    let more = sum_by_more f xs place x (slice_get_within xs place x is) in
    let same : f (get_or xs place x) ≡ f x = ap f (get_or_from_slice_get xs place x x is) in
    omega arith
