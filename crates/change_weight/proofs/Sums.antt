-- Sums over the items of a list.
use Rattle.std.proofs.Common.{◌≡◌, ℕ, ◌+◌, List, [], ◌∷◌, Bool, true, false, not, cond, refl, ◌∙◌, arith}
use Rattle.std.specs.Prelude.{Contains, filter, sum_by}
use Rattle.std.proofs.lemmas.List.Sums.{sum_by-cons}
use Rattle.subject_model.proofs.Members.{contains_here, contains_later}

-- a sum of sums
pub sum_by-both : {X : Type 0} (f g h : X → ℕ) → ((x : X) → h x ≡ f x + g x) → (xs : List X) → sum_by h xs ≡ sum_by f xs + sum_by g xs
sum_by-both f g h both [] = refl
sum_by-both f g h both (x ∷ xs) =
    let own = both x in let later = sum_by-both f g h both xs in
    let whole = sum_by-cons h x xs in let one = sum_by-cons f x xs in let other = sum_by-cons g x xs in omega arith

-- sums of what is the same
pub sum_by-same : {X : Type 0} (f g : X → ℕ) (xs : List X) → ((x : X) → Contains xs x → f x ≡ g x) → sum_by f xs ≡ sum_by g xs
sum_by-same f g [] same = refl
sum_by-same f g (x ∷ xs) same =
    let own = same x (contains_here x xs) in
    let later = sum_by-same f g xs (λ y among. same y (contains_later x xs y among)) in
    let one = sum_by-cons f x xs in let other = sum_by-cons g x xs in omega arith

-- and of what counts nothing
pub sum_by-none : {X : Type 0} (f : X → ℕ) (xs : List X) → ((x : X) → Contains xs x → f x ≡ 0) → sum_by f xs ≡ 0
sum_by-none f [] none = refl
sum_by-none f (x ∷ xs) none =
    let own = none x (contains_here x xs) in
    let later = sum_by-none f xs (λ y among. none y (contains_later x xs y among)) in
    let one = sum_by-cons f x xs in omega arith

module _ {X : Type 0} (f : X → ℕ) (p : X → Bool) where
  split_step : (b : Bool) (x : X) (kept others : List X) (rest : ℕ) → rest ≡ sum_by f kept + sum_by f others
      → f x + rest ≡ sum_by f (cond b (x ∷ kept) kept) + sum_by f (cond (not b) (x ∷ others) others)
  split_step true x kept others rest is = let one = sum_by-cons f x kept in omega arith
  split_step false x kept others rest is = let one = sum_by-cons f x others in omega arith

  -- what passes a test is summed, and what doesn't
  pub split_sum : (xs : List X) → sum_by f xs ≡ sum_by f (filter p xs) + sum_by f (filter (λ x. not (p x)) xs)
  split_sum [] = refl
  split_sum (x ∷ xs) = sum_by-cons f x xs ∙ split_step (p x) x (filter p xs) (filter (λ y. not (p y)) xs) (sum_by f xs) (split_sum xs)
