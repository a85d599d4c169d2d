-- The number that a word is.
use Rattle.std.specs.Prelude.{◌==◌, ◌&&◌, ℕ, Bool, false, not, List, [], ◌∷◌, Option, None, Some, if◌then◌else◌, nat_le}
use Rattle.std.specs.Str.{all_ascii_digits}
use Rattle.std.specs.Str.Parse.{digits_value}

-- decimal digits alone, one or more, of which the first isn't 0 (48), so that their number is at least 1
abbrev pub is_numeral : List ℕ → Bool
is_numeral [] = false
is_numeral (first ∷ rest) = not (first == 48) && all_ascii_digits (first ∷ rest)

-- the number that the word writes, where it is at most so much
abbrev pub number_up_to : ℕ → List ℕ → Option ℕ
number_up_to most word = if is_numeral word && nat_le (digits_value 10 word) most then Some (digits_value 10 word) else None
