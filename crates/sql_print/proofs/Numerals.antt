-- The digits of a number are read as that number.
use Rattle.std.proofs.Common.{◌≡◌, ◌<◌, ◌+◌, ◌*◌, ◌-◌, ◌%◌, ◌^◌, ℕ, true, List, [], ◌∷◌, ◌++◌, decimal, refl, ap, ◌∙◌, arith}
use Rattle.std.specs.Prelude.{IsTrue, ◌&&◌}
use Rattle.std.specs.Char.{is_ascii_digit}
use Rattle.std.specs.List.{list_all}
use Rattle.std.proofs.lemmas.Bool.{false≢true}
use Rattle.std.proofs.lemmas.Fmt.{decimal_by_steps}
use Rattle.std.proofs.lemmas.List.Folds.{list_all-append}
use Rattle.sql_lex.specs.Tokens.{is_number}
use Rattle.grammar_model.specs.Values.{digits_after}

-- one digit more
digits_after-more : (digits : List ℕ) (number digit : ℕ) → digits_after number (digits ++ digit ∷ []) ≡ 10 * digits_after number digits + (digit - 48)
digits_after-more [] number digit = refl
digits_after-more (first ∷ digits) number digit = digits_after-more digits (10 * number + (first - 48)) digit

-- a list of which each member passes, and one more that does
list_all-more : (digits : List ℕ) (digit : ℕ) → list_all is_ascii_digit digits ≡ true → is_ascii_digit digit ≡ true → list_all is_ascii_digit (digits ++ digit ∷ []) ≡ true
list_all-more digits digit all one =
    list_all-append is_ascii_digit digits (digit ∷ []) ∙ ap (λ b. b && (is_ascii_digit digit && true)) all ∙ ap (λ b. b && true) one

-- digits, and one more
is_number-more : (digits : List ℕ) (digit : ℕ) → IsTrue (is_number digits) → is_ascii_digit digit ≡ true → IsTrue (is_number (digits ++ digit ∷ []))
is_number-more [] digit number one = absurd (false≢true number)
is_number-more (first ∷ digits) digit number one = list_all-more (first ∷ digits) digit number one

-- a digit of a number is a digit
digit_is : (number : ℕ) → number < 10 → is_ascii_digit (48 + number) ≡ true
digit_is number small = grind arith

-- what is written for a number is digits, whose number it is
pub decimal_read : (number : ℕ) → number < 2 ^ 64 → IsTrue (is_number (decimal number)) × (digits_after 0 (decimal number) ≡ number)
decimal_read = decimal_by_steps (λ number digits. IsTrue (is_number digits) × (digits_after 0 digits ≡ number))
    (λ number small. (ap (λ b. b && true) (digit_is number small), omega arith))
    (λ number digits large before. (
      is_number-more digits (48 + number % 10) before.0 (digit_is (number % 10) (omega arith)),
      digits_after-more digits 0 (48 + number % 10) ∙ omega (arith, before.1),
    ))
