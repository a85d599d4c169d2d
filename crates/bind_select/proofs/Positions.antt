-- The first item that passes, by its number.
use Rattle.std.proofs.Common.{◌≡◌, ℕ, suc, ◌+◌, ◌<◌, Bool, true, false, not, ◌||◌, cond, List, [], ◌∷◌, Some, None, is_some, length, nat_lt, arith, refl, ◌∙◌}
use Rattle.std.specs.List.{list_any, position, position_or_len}
use Rattle.std.proofs.lemmas.Bool.Decides.{nat_tests}
use Rattle.std.proofs.lemmas.List.Quantifiers.{position-Some}

-- a number that is there where a test says so
is_some-cond : (here : Bool) (i : ℕ) → is_some (cond here (Some i) None) ≡ here
is_some-cond true i = refl
is_some-cond false i = refl

-- one item more in front
nat_lt-step : (here later : Bool) (i n : ℕ) → nat_lt i n ≡ later → nat_lt (cond (not here) (1 + i) 0) (suc n) ≡ (here || later)
nat_lt-step true later i n ih = grind (arith, nat_tests)
nat_lt-step false later i n ih = grind (arith, nat_tests)

-- one item passes where its number is below the length
nat_lt-position_or_len : {A : Type 0} (p : A → Bool) (xs : List A) → nat_lt (position_or_len p xs) (length xs) ≡ list_any p xs
nat_lt-position_or_len p [] = refl
nat_lt-position_or_len p (x ∷ xs) = nat_lt-step (p x) (list_any p xs) (position_or_len p xs) (length xs) (nat_lt-position_or_len p xs)

-- there is one where any passes
pub is_some-position : {A : Type 0} (p : A → Bool) (xs : List A) → is_some (position p xs) ≡ list_any p xs
is_some-position p xs = is_some-cond (nat_lt (position_or_len p xs) (length xs)) (position_or_len p xs) ∙ nat_lt-position_or_len p xs

-- its number is one of the list
pub position_within : {A : Type 0} (p : A → Bool) (xs : List A) (i : ℕ) → position p xs ≡ Some i → i < length xs
position_within p [] i is = absurd (cc)
position_within p (x ∷ xs) i is = (position-Some p (x ∷ xs) i x is).0

-- whether an item passes, and which is the first
pub ruleset positions = (is_some-position, position_within)
