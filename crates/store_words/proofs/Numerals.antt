-- What the std's `parse` answers at a word of digits alone.
use Rattle.std.proofs.Common.{◌≡◌, ◌∙◌, ◌<◌, ◌^◌, inl, inr, ℕ, true, false, List, [], ◌∷◌, Some, None, Result, Ok, Err, arith, refl, sym, length}
use Rattle.std.specs.Prelude.{◌==◌, not, slice_get}
use Rattle.std.specs.Char.{is_ascii_digit}
use Rattle.std.specs.List.{list_all}
use Rattle.std.specs.Result.{result_ok}
use Rattle.std.specs.Str.{all_ascii_digits}
use Rattle.std.specs.Str.Parse.{ParsesUnsigned, digits_value}
use Rattle.std.proofs.lemmas.Bool.{cases_lt, lt-leb, ne_eqb}
use Rattle.std.proofs.lemmas.Str.Parse.{numerals_by_value, parse_digits, tells_all_ascii_digits}
use Rattle.clap.proofs.WalkLemmas.{both}
use Rattle.store_words.specs.Numbers.{is_numeral, number_up_to}

-- bytes of which the first is no 0 are a numeral just where each is a digit
pub numeral_is : (bytes : List ℕ) (first : ℕ) → slice_get bytes 0 ≡ Some first → (first ≡ 48 → ⊥) → list_all is_ascii_digit bytes ≡ is_numeral bytes
numeral_is [] first e other = cc
numeral_is (byte ∷ bytes) first e other =
    let same : byte ≡ first = cc in
    let no_zero : (byte == 48) ≡ false = ne_eqb byte 48 (λ zero. other (sym same ∙ zero)) in
    rw no_zero refl

-- a numeral is digits alone
numeral_digits : (word : List ℕ) → is_numeral word ≡ true → all_ascii_digits word ≡ true
numeral_digits [] e = cc
numeral_digits (first ∷ rest) e = (both (not (first == 48)) _ e).1

-- one or more
numeral_some : (word : List ℕ) → is_numeral word ≡ true → 0 < length word
numeral_some [] e = cc
numeral_some (first ∷ rest) e = omega arith

-- where `parse` reads no number of 32 bits from a numeral, the numeral's is more than so much
pub numeral_too_great : {E : Type 0} (most : ℕ) (word : List ℕ) (r : Result ℕ E) → is_numeral word ≡ true → most < 2 ^ 32 → ParsesUnsigned 32 10 word r → result_ok r ≡ None
    → None ≡ number_up_to most word
numeral_too_great most word (Ok number) numeral fits read none = cc
numeral_too_great most word (Err e) numeral fits read none =
    let great : most < digits_value 10 word =
    elim (cases_lt most (digits_value 10 word)) [
      | inl less ↦ less
      | inr more ↦ absurd (parse_digits (numerals_by_value _ tells_all_ascii_digits) 32 word (Err e) read (numeral_digits word numeral) (numeral_some word numeral, omega arith))
    ] in
    rw (numeral, lt-leb (digits_value 10 word) most great) refl
