-- The numbers of the mode that words are lie in their ranges.
use Rattle.std.proofs.Common.{◌≡◌, ◌∙◌, ◌<◌, ◌≤◌, inl, inr, ℕ, Bool, true, false, List, [], ◌∷◌, Option, Some, None, arith, refl, ap, codes, leb-true, nat_le}
use Rattle.std.specs.Prelude.{◌==◌, ◌&&◌, not, if◌then◌else◌, option_and_then, option_map}
use Rattle.std.specs.Char.{digit_value, is_ascii_digit}
use Rattle.std.specs.Str.{all_ascii_digits, bytes_eq}
use Rattle.std.specs.Str.Parse.{digits_value}
use Rattle.std.proofs.lemmas.Bool.{cases_lt}
use Rattle.std.proofs.lemmas.Str.{digit_value_digit}
use Rattle.std.proofs.lemmas.Str.Parse.{digits_value-take-le}
use Rattle.clap.proofs.WalkLemmas.{both}
use Rattle.made_model.specs.declared.limits.TheConstants.{PEOPLE, SEEDS}
use Rattle.store_words.specs.Numbers.{is_numeral, number_up_to}
use Rattle.store_words.specs.Words.{make_of, mode_of}
use Rattle.store_words.specs.declared.words.Mode.TheVariants.{Make, Serve, Step}

-- from 1 to so much
abbrev pub IsUpTo : ℕ → ℕ → Type 0
IsUpTo most number = (0 < number) × (number ≤ most)

-- a digit that isn't 0 is at least 1
digit_counts : (digit : ℕ) → is_ascii_digit digit ≡ true → not (digit == 48) ≡ true → 0 < digit_value digit
digit_counts digit is other =
    let ends = both (nat_le 48 digit) (nat_le digit 57) is in
    let least : 48 ≤ digit = leb-true 48 digit ends.0 in
    let most : digit ≤ 57 = leb-true digit 57 ends.1 in
    elim (cases_lt 48 digit) [
      | inl more ↦ omega (arith, digit_value_digit digit (least, most))
      | inr less ↦ let zero : digit ≡ 48 = omega arith in let bad = rw zero at other in cc
    ]

-- so is a numeral
numeral_counts : (word : List ℕ) → is_numeral word ≡ true → 0 < digits_value 10 word
numeral_counts [] e = cc
numeral_counts (first ∷ rest) e =
    let parts = both (not (first == 48)) (all_ascii_digits (first ∷ rest)) e in
    let digit = digit_counts first (both (is_ascii_digit first) (all_ascii_digits rest) parts.1).0 parts.0 in
    omega (arith, digit, digits_value-take-le 10 (first ∷ rest) 1 (omega arith))

-- the number that a word is
number_in_range : (most : ℕ) (word : List ℕ) (number : ℕ) → number_up_to most word ≡ Some number → IsUpTo most number
number_in_range most word number e = go (is_numeral word && nat_le (digits_value 10 word) most) refl
  where
    go : (test : Bool) → (is_numeral word && nat_le (digits_value 10 word) most) ≡ test → IsUpTo most number
    go false is = let none : None ≡ Some number = rw is at e in cc
    go true is =
        let parts = both (is_numeral word) _ is in
        let some : Some (digits_value 10 word) ≡ Some number = rw is at e in
        let same : digits_value 10 word ≡ number = cc in
        (omega (arith, same, numeral_counts word parts.0), omega (arith, same, leb-true (digits_value 10 word) most parts.1))

-- the numbers of two words
make_in_range : (people_word seed_word : List ℕ) (people seed : ℕ) → make_of people_word seed_word ≡ Some (Make people seed) → IsUpTo PEOPLE people × IsUpTo SEEDS seed
make_in_range people_word seed_word people seed e = go (number_up_to PEOPLE people_word) (number_up_to SEEDS seed_word) refl refl e
  where
    go : (first second : Option ℕ) → number_up_to PEOPLE people_word ≡ first → number_up_to SEEDS seed_word ≡ second
        → option_and_then (λ n. option_map (λ s. Make n s) second) first ≡ Some (Make people seed) → IsUpTo PEOPLE people × IsUpTo SEEDS seed
    go None second first_is second_is made = cc
    go (Some n) None first_is second_is made = cc
    go (Some n) (Some s) first_is second_is made =
        let people_is : n ≡ people = cc in
        let seed_is : s ≡ seed = cc in
        (number_in_range PEOPLE people_word people (first_is ∙ ap Some people_is), number_in_range SEEDS seed_word seed (second_is ∙ ap Some seed_is))

-- the numbers of the mode that words are
pub mode_in_range : (words : List (List ℕ)) (people seed : ℕ) → mode_of words ≡ Some (Make people seed) → IsUpTo PEOPLE people × IsUpTo SEEDS seed
mode_in_range [] people seed e = cc
mode_in_range (word ∷ []) people seed e = go (bytes_eq word (codes "step")) (bytes_eq word (codes "serve")) e
  where
    go : (step serve : Bool) → (if step then Some Step else (if serve then Some Serve else None)) ≡ Some (Make people seed) → IsUpTo PEOPLE people × IsUpTo SEEDS seed
    go true serve is = cc
    go false true is = cc
    go false false none = cc
mode_in_range (word ∷ first ∷ []) people seed e = cc
mode_in_range (word ∷ first ∷ second ∷ []) people seed e = go (bytes_eq word (codes "make")) e
  where
    go : (same : Bool) → (if same then make_of first second else None) ≡ Some (Make people seed) → IsUpTo PEOPLE people × IsUpTo SEEDS seed
    go true made = make_in_range first second people seed made
    go false none = cc
mode_in_range (word ∷ first ∷ second ∷ next ∷ words) people seed e = cc
