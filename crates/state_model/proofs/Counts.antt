-- A list that is filtered has no more elements and sums to no more.
use Rattle.std.proofs.Common.{◌≡◌, ℕ, ◌+◌, ◌≤◌, ◌<◌, List, [], ◌∷◌, length, map, Bool, true, false, not, cond, refl, ap, ◌∙◌, arith}
use Rattle.std.specs.Prelude.{◌&&◌, Contains, filter, sum_by}
use Rattle.std.specs.List.{AllByRecursion}
use Rattle.std.proofs.lemmas.List.Sums.{sum_by-cons}

module _ {X : Type 0} where
  fewer_step : (a b : Bool) (x : X) (kept more : List X) → (a ≡ true → b ≡ true) → length kept ≤ length more
      → length (cond a (x ∷ kept) kept) ≤ length (cond b (x ∷ more) more)
  fewer_step true true x kept more weaker fewer = omega arith
  fewer_step true false x kept more weaker fewer = let never = weaker refl in cc
  fewer_step false true x kept more weaker fewer = omega arith
  fewer_step false false x kept more weaker fewer = fewer

  -- where what passes one test passes another, no more pass the one
  pub fewer : (p q : X → Bool) → ((x : X) → p x ≡ true → q x ≡ true) → (xs : List X) → length (filter p xs) ≤ length (filter q xs)
  fewer p q weaker [] = omega arith
  fewer p q weaker (x ∷ xs) = fewer_step (p x) (q x) x (filter p xs) (filter q xs) (weaker x) (fewer p q weaker xs)

  twice_step : (p : X → Bool) (b : Bool) (x : X) (kept rest : List X) → filter p kept ≡ rest → filter p (cond b (x ∷ kept) kept) ≡ cond (b && p x) (x ∷ rest) rest
  twice_step p true x kept rest is = ap (λ r. cond (p x) (x ∷ r) r) is
  twice_step p false x kept rest is = is

  -- what is filtered twice passes both tests
  pub filter-twice : (p q : X → Bool) (xs : List X) → filter p (filter q xs) ≡ filter (λ x. q x && p x) xs
  filter-twice p q [] = refl
  filter-twice p q (x ∷ xs) = twice_step p (q x) x (filter q xs) _ (filter-twice p q xs)

  apart_step : (a b : Bool) (x : X) (some own all : List X) → (b ≡ true → a ≡ true) → length some + length own ≡ length all
      → length (cond (a && not b) (x ∷ some) some) + length (cond b (x ∷ own) own) ≡ length (cond a (x ∷ all) all)
  apart_step true true x some own all weaker is = omega arith
  apart_step true false x some own all weaker is = omega arith
  apart_step false true x some own all weaker is = let never = weaker refl in cc
  apart_step false false x some own all weaker is = is

  -- those that pass one test alone, and those that pass a stronger one too
  pub apart : (p q : X → Bool) → ((x : X) → q x ≡ true → p x ≡ true) → (xs : List X)
      → length (filter (λ x. p x && not (q x)) xs) + length (filter q xs) ≡ length (filter p xs)
  apart p q weaker [] = omega arith
  apart p q weaker (x ∷ xs) = apart_step (p x) (q x) x _ _ _ (weaker x) (apart p q weaker xs)

  -- a list that has an element isn't empty
  pub some-counted : (xs : List X) (x : X) → Contains xs x → 0 < length xs
  some-counted xs x (place, within, is) = omega arith

  none_step : (b : Bool) (x : X) (kept : List X) → b ≡ false → length kept ≡ 0 → length (cond b (x ∷ kept) kept) ≡ 0
  none_step true x kept fails none = cc
  none_step false x kept fails none = none

  -- where each fails a test, none passes
  pub none-counted : (p : X → Bool) → ((x : X) → p x ≡ false) → (xs : List X) → length (filter p xs) ≡ 0
  none-counted p fails [] = refl
  none-counted p fails (x ∷ xs) = none_step (p x) x (filter p xs) (fails x) (none-counted p fails xs)

  less_step : (f g : X → ℕ) (b : Bool) (x : X) (kept all : List X) → (b ≡ true → f x ≤ g x) → sum_by f kept ≤ sum_by g all
      → sum_by f (cond b (x ∷ kept) kept) ≤ sum_by g (x ∷ all)
  less_step f g true x kept all here less =
      let long = sum_by-cons f x kept in let short = sum_by-cons g x all in let own = here refl in omega arith
  less_step f g false x kept all here less = let short = sum_by-cons g x all in omega arith

  -- where each that is kept counts no more than before, they sum to no more
  pub less : (f g : X → ℕ) (p : X → Bool) (xs : List X) → AllByRecursion (λ x. p x ≡ true → f x ≤ g x) xs → sum_by f (filter p xs) ≤ sum_by g xs
  less f g p [] each = omega arith
  less f g p (x ∷ xs) each = less_step f g (p x) x (filter p xs) xs each.0 (less f g p xs each.1)

-- the sum of a list of images
pub sum_by-map : {X Y : Type 0} (f : Y → ℕ) (h : X → Y) (xs : List X) → sum_by f (map h xs) ≡ sum_by (λ x. f (h x)) xs
sum_by-map f h [] = refl
sum_by-map f h (x ∷ xs) =
    let long = sum_by-cons f (h x) (map h xs) in let short = sum_by-cons (λ x. f (h x)) x xs in let later = sum_by-map f h xs in omega arith

-- the images of those that are kept sum to no more
pub less-images : {X Y : Type 0} (f : Y → ℕ) (g : X → ℕ) (h : X → Y) (p : X → Bool) (xs : List X) (ys : List Y) → ys ≡ map h (filter p xs)
    → AllByRecursion (λ x. p x ≡ true → f (h x) ≤ g x) xs → sum_by f ys ≤ sum_by g xs
less-images f g h p xs ys made each =
    let same : sum_by f ys ≡ sum_by (λ x. f (h x)) (filter p xs) = ap (sum_by f) made ∙ sum_by-map f h (filter p xs) in
    rw same (less (λ x. f (h x)) g p xs each)
