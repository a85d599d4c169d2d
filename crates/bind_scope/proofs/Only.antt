-- The one column that a reference names, found as a list is gone over.
use Rattle.std.proofs.Common.{◌≡◌, ℕ, zero, suc, ◌+◌, Bool, true, List, [], ◌∷◌, ◌++◌, Option, None, Some, is_some, take, drop, map, refl, ap, arith}
use Rattle.std.specs.List.{filter, slice_get}
use Rattle.std.specs.Option.{option_map, option_to_list}
use Rattle.std.proofs.lemmas.List.{map-append, take-append-drop}
use Rattle.std.proofs.lemmas.List.Elements.{filter-append}
use Rattle.query_model.specs.Scope.{Named, only}

-- one item more
pub take_more_get : {A : Type 0} (xs : List A) (i : ℕ) → take (i + 1) xs ≡ take i xs ++ option_to_list (slice_get xs i)
take_more_get [] zero = refl
take_more_get [] (suc i) = let e : suc i + 1 ≡ suc (i + 1) = omega arith in rw e
take_more_get (x ∷ xs) zero = refl
take_more_get (x ∷ xs) (suc i) = let e : suc i + 1 ≡ suc (i + 1) = omega arith in rw e (ap (λ ys. x ∷ ys) (take_more_get xs i))

-- the same, of those that pass
pub filter_more : {A : Type 0} (p : A → Bool) (xs : List A) (i : ℕ) → filter p (take (i + 1) xs) ≡ filter p (take i xs) ++ filter p (option_to_list (slice_get xs i))
filter_more p xs i = rw (take_more_get xs i) (filter-append p (take i xs) (option_to_list (slice_get xs i)))

-- the same, of what is made of each
pub map_more : {A B : Type 0} (f : A → B) (xs : List A) (i : ℕ) → map f (take (i + 1) xs) ≡ map f (take i xs) ++ map f (option_to_list (slice_get xs i))
map_more f xs i = rw (take_more_get xs i) (map-append f (take i xs) (option_to_list (slice_get xs i)))

-- those that pass, up to an item, at it, and behind it
pub filter_parts : {A : Type 0} (p : A → Bool) (xs : List A) (i : ℕ)
    → filter p xs ≡ (filter p (take i xs) ++ filter p (option_to_list (slice_get xs i))) ++ filter p (drop (i + 1) xs)
filter_parts p xs i = rw (← filter_more p xs i, ← filter-append p (take (i + 1) xs) (drop (i + 1) xs), take-append-drop (i + 1) xs)

-- what is found when nothing is left
pub only-option_to_list : (found : Option Named) → only (option_to_list found) ≡ found
only-option_to_list None = refl
only-option_to_list (Some named) = refl

-- one is found, and then another
pub only_of_two : {A : Type 0} (seen : A → Named) (p : Named → Bool) (xs : List Named) (i : ℕ) (found : Option A) (next : Named)
    → filter p (take i xs) ≡ option_to_list (option_map seen found) → next ∷ [] ≡ filter p (option_to_list (slice_get xs i))
    → is_some found ≡ true → only (filter p xs) ≡ None
only_of_two seen p xs i None next so_far here one = absurd (cc)
only_of_two seen p xs i (Some found) next so_far here one = rw (filter_parts p xs i, so_far, ← here)

-- a loop over numbers that makes something of each item
pub ruleset more = (map_more)

-- a loop over numbers that keeps the one item that passes
pub ruleset steps = (filter_more, only-option_to_list, only_of_two)
