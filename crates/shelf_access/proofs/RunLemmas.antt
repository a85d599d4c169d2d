-- Lists that are gone through run by run.
use Rattle.std.proofs.Common.{◌≡◌, ℕ, zero, suc, ◌+◌, ◌≤◌, List, [], ◌∷◌, ◌++◌, length, drop, take, refl, ap, sym, ◌∙◌, subst, arith}
use Rattle.std.specs.List.{AllByRecursion as Each}
use Rattle.page_model.specs.Run.{IsRunFrom}
use Rattle.page_model.proofs.RisingLemmas.{each_front}

front_taken : {X : Type 0} (run rest : List X) → take (length run) (run ++ rest) ≡ run
front_taken [] [] = refl
front_taken [] (x ∷ rest) = refl
front_taken (x ∷ run) rest = ap (λ xs. x ∷ xs) (front_taken run rest)

taken : {X : Type 0} (xs : List X) (at : ℕ) (run rest : List X) → drop at xs ≡ run ++ rest → at ≤ length xs → take (at + length run) xs ≡ take at xs ++ run
taken xs zero run rest is within =
    ap (λ n. take n xs) (let same : 0 + length run ≡ length run = omega arith in same) ∙ (ap (take (length run)) is ∙ front_taken run rest)
taken [] (suc at) run rest is within = absurd (omega arith)
taken (x ∷ xs) (suc at) run rest is within =
    ap (λ n. take n (x ∷ xs)) (let same : suc at + length run ≡ suc (at + length run) = omega arith in same) ∙ ap (λ ys. x ∷ ys) (taken xs at run rest is (omega arith))

fits : {X : Type 0} (xs : List X) (at : ℕ) (run rest : List X) → drop at xs ≡ run ++ rest → at ≤ length xs → at + length run ≤ length xs
fits xs zero run rest is within = subst (λ ys. 0 + length run ≤ length ys) (sym is) (longer run)
  where
    longer : (ys : List _) → 0 + length ys ≤ length (ys ++ rest)
    longer [] = omega arith
    longer (y ∷ ys) = let more = longer ys in omega arith
fits [] (suc at) run rest is within = absurd (omega arith)
fits (x ∷ xs) (suc at) run rest is within = let more = fits xs at run rest is (omega arith) in omega arith

-- with a run the front is as much longer
pub run_taken : {X : Type 0} (xs : List X) (at : ℕ) (run : List X) → at ≤ length xs → IsRunFrom xs at run → take (at + length run) xs ≡ take at xs ++ run
run_taken xs at run within is = taken xs at run is.rest is.follow within

-- and not longer than the list
pub run_fits : {X : Type 0} (xs : List X) (at : ℕ) (run : List X) → at ≤ length xs → IsRunFrom xs at run → at + length run ≤ length xs
run_fits xs at run within is = fits xs at run is.rest is.follow within

each_drop : {X : Type 0} (P : X → Type 0) (n : ℕ) (xs : List X) → Each P xs → Each P (drop n xs)
each_drop P zero xs all = all
each_drop P (suc n) [] all = tt
each_drop P (suc n) (x ∷ xs) all = each_drop P n xs all.1

-- what holds of each holds of each of a run
pub each_run : {X : Type 0} (P : X → Type 0) (xs : List X) (place : ℕ) (run : List X) → Each P xs → IsRunFrom xs place run → Each P run
each_run P xs place run all is = each_front P run is.rest (subst (Each P) is.follow (each_drop P place xs all))
