-- The bytes that the words of a canonical text take, and those that its tokens have in a text.
use Rattle.std.proofs.Common.{◌≡◌, ◌≤◌, ◌<◌, ◌^◌, ◌-◌, ℕ, zero, suc, ◌+◌, List, [], ◌∷◌, ◌++◌, Bool, true, false, cond, ltb, length, map, decimal, inl, inr, sym, ap, arith, length-append}
use Rattle.std.specs.Prelude.{ℤ, codes}
use Rattle.std.specs.Char.{to_ascii_lowercase}
use Rattle.std.specs.Cmp.Lexicographic.{same_text}
use Rattle.std.specs.Fmt.{signed_decimal}
use Rattle.std.proofs.lemmas.Bool.{false≢true, lt-ltb}
use Rattle.std.proofs.lemmas.List.{length-map}
use Rattle.sql_lex.specs.declared.token.TokenKind.TheVariants.{Name, Keyword, Number, Quoted, Mark}
use Rattle.sql_lex.specs.Tokens.{quoted}
use Rattle.text_model.specs.Words.{Words, bracketed, column_words, literal_word, spaced}
use Rattle.grammar_model.specs.Grammar as rules
use Rattle.grammar_model.specs.Language as languages
use Rattle.grammar_model.specs.Language.{Language, one, ◌>>=◌, ◌>>◌, ◌or◌, pure, optional, many_from}
use Rattle.grammar_model.specs.Limits.{Limits}
use Rattle.grammar_model.specs.Terminal.{Terminal, Terminals, Written, Slot, is_mark, is_word}
use Rattle.grammar_model.specs.Values.{NameIs, NumberIs, TextIs, digits_after, signed}

-- ---- words

-- the bytes of words, with a space before each
abbrev pub bytes_of : Words → ℕ
bytes_of [] = 0
bytes_of (word ∷ words) = suc (length word) + bytes_of words

pub bytes-append : (first second : Words) → bytes_of (first ++ second) ≡ bytes_of first + bytes_of second
bytes-append [] second = omega arith
bytes-append (word ∷ words) second = let later = bytes-append words second in omega arith

pub bytes-spaced : (words : Words) → length (spaced words) ≤ bytes_of words
unfolding spaced
bytes-spaced [] = omega arith
bytes-spaced (word ∷ []) = omega arith
bytes-spaced (word ∷ next ∷ words) = let later = bytes-spaced (next ∷ words) in omega (arith, length-append word (32 ∷ spaced (next ∷ words)))

pub bytes-bracketed : (words : Words) → bytes_of (bracketed words) ≡ bytes_of words + 4
bytes-bracketed words = omega (arith, bytes-append words (codes ")" ∷ []))

-- ---- terminals

-- the digits of a number that the store can have
abbrev pub numeral : List ℕ → ℕ
numeral digits = cond (ltb (digits_after 0 digits) (2 ^ 64)) (length (decimal (digits_after 0 digits))) 0

-- the bytes of the word that a terminal is written as, with a space before it
abbrev pub word_bytes : Terminal → ℕ
word_bytes (Written Name bytes start) = suc (length bytes)
word_bytes (Written Keyword bytes start) = suc (length bytes)
word_bytes (Written Number bytes start) = suc (numeral bytes)
word_bytes (Written Quoted bytes start) = suc (length bytes)
word_bytes (Written Mark bytes start) = suc (length bytes)
word_bytes Slot = 1

abbrev pub bytes_in : Terminals → ℕ
bytes_in [] = 0
bytes_in (terminal ∷ terminals) = word_bytes terminal + bytes_in terminals

-- the terminals that the language takes are written as at least as many bytes as its value counts
abbrev pub Covers : {A : Type 0} → (A → ℕ) → Language A → Type 0
Covers {A} count language = (found : A) (terminals rest : Terminals) → language found terminals rest → count found + bytes_in rest ≤ bytes_in terminals

-- one terminal
pub one-covers : {A : Type 0} (count : A → ℕ) (means : A → Terminal → Type 0) → ((found : A) (terminal : Terminal) → means found terminal → count found ≤ word_bytes terminal) → Covers count (one means)
one-covers count means fits found terminals rest by = let own = fits found by.0 by.2 in rw by.1 (omega arith)

-- a keyword in any case has the bytes of the word, and a mark its own
keyword_long : (wanted : List ℕ) (terminal : Terminal) → is_word wanted terminal ≡ true → suc (length wanted) ≤ word_bytes terminal
keyword_long wanted (Written Keyword bytes start) is =
    let same = ap length (same_text (map to_ascii_lowercase bytes) (map to_ascii_lowercase wanted) (sym is)) in
    omega (arith, length-map bytes to_ascii_lowercase, length-map wanted to_ascii_lowercase)
keyword_long wanted (Written Name bytes start) is = absurd (false≢true is)
keyword_long wanted (Written Number bytes start) is = absurd (false≢true is)
keyword_long wanted (Written Quoted bytes start) is = absurd (false≢true is)
keyword_long wanted (Written Mark bytes start) is = absurd (false≢true is)
keyword_long wanted Slot is = absurd (false≢true is)

mark_long : (wanted : List ℕ) (terminal : Terminal) → is_mark wanted terminal ≡ true → suc (length wanted) ≤ word_bytes terminal
mark_long wanted (Written Mark bytes start) is = let same = ap length (same_text bytes wanted (sym is)) in omega arith
mark_long wanted (Written Name bytes start) is = absurd (false≢true is)
mark_long wanted (Written Number bytes start) is = absurd (false≢true is)
mark_long wanted (Written Quoted bytes start) is = absurd (false≢true is)
mark_long wanted (Written Keyword bytes start) is = absurd (false≢true is)
mark_long wanted Slot is = absurd (false≢true is)

pub keyword : (wanted : List ℕ) → Covers (λ _. suc (length wanted)) (languages.word wanted)
keyword wanted = one-covers (λ _. suc (length wanted)) _ (λ _ terminal is. keyword_long wanted terminal is)

pub mark : (wanted : List ℕ) → Covers (λ _. suc (length wanted)) (languages.mark wanted)
mark wanted = one-covers (λ _. suc (length wanted)) _ (λ _ terminal is. mark_long wanted terminal is)

-- ---- names, texts and numbers

name_long : (limits : Limits) (found : List ℕ) (terminal : Terminal) → NameIs limits found terminal → suc (length found) ≤ word_bytes terminal
name_long limits found terminal is = rw is.is (let same = ap length is.lower in omega (arith, length-map is.bytes to_ascii_lowercase))

pub name : (limits : Limits) → Covers (λ (found : List ℕ). suc (length found)) (rules.name limits)
unfolding rules.name
name limits = one-covers (λ (found : List ℕ). suc (length found)) _ (name_long limits)

text_long : (limits : Limits) (found : List ℕ) (terminal : Terminal) → TextIs limits found terminal → suc (length (quoted found)) ≤ word_bytes terminal
text_long limits found terminal is = rw is.is (omega arith)

text : (limits : Limits) → Covers (λ (found : List ℕ). suc (length (quoted found))) (rules.text limits)
unfolding rules.text
text limits = one-covers (λ (found : List ℕ). suc (length (quoted found))) _ (text_long limits)

-- a number with its sign has a byte more than its digits
abbrev sign_bytes : Bool → ℕ
sign_bytes false = 0
sign_bytes true = 1

abbrev number_bytes : ℤ → ℕ
number_bytes number = suc (length (signed_decimal number))

signed_long : (negative : Bool) (n : ℕ) → length (signed_decimal (signed negative n)) ≤ sign_bytes negative + length (decimal n)
signed_long false n = omega arith
signed_long true zero = omega arith
signed_long true (suc n) = omega arith

below_64 : (negative : Bool) (n : ℕ) → n ≤ cond negative (2 ^ 63) (2 ^ 63 - 1) → n < 2 ^ 64
below_64 false n few = omega arith
below_64 true n few = omega arith

number_long : (negative : Bool) (found : ℤ) (terminal : Terminal) → NumberIs negative found terminal → number_bytes found ≤ sign_bytes negative + word_bytes terminal
number_long negative found terminal is =
    let long = signed_long negative (digits_after 0 is.digits) in
    let fits = lt-ltb (digits_after 0 is.digits) (2 ^ 64) (below_64 negative (digits_after 0 is.digits) is.in_range) in
    rw (is.is, is.value, fits) (omega arith)

pub int : Covers number_bytes rules.int
unfolding rules.int rules.number
int found terminals rest (inl (_, middle, sign, digits)) =
    let minus = mark (codes "-") tt terminals middle sign in
    let own = number_long true found digits.0 digits.2 in
    let split = ap bytes_in digits.1 in
    omega arith
int found terminals rest (inr digits) =
    let own = number_long false found digits.0 digits.2 in
    let split = ap bytes_in digits.1 in
    omega arith

-- a literal
pub literal : (limits : Limits) → Covers (λ found. suc (length (literal_word found))) (rules.literal limits)
unfolding rules.literal literal_word
literal limits found terminals rest (inl (_, middle, by, last)) = let own = keyword (codes "NULL") tt terminals middle by in rw (last.0, ← last.1) (omega arith)
literal limits found terminals rest (inr (inl (value, middle, by, last))) = let own = text limits value terminals middle by in rw (last.0, ← last.1) (omega arith)
literal limits found terminals rest (inr (inr (value, middle, by, last))) = let own = int value terminals middle by in rw (last.0, ← last.1) (omega arith)

-- a column, with its table before it or without
pub col : (limits : Limits) → Covers (λ found. bytes_of (column_words found)) (rules.col limits)
unfolding rules.col rules.col_after column_words
col limits found terminals rest (first, middle, named, (_, after, inl (second, end, (_, dotted, dot, other), some), last)) =
    let own = name limits first terminals middle named in
    let sign = mark (codes ".") tt middle dotted dot in
    let next = name limits second dotted end other in
    rw (last.0, some.0, ← last.1, ← some.1) (omega arith)
col limits found terminals rest (first, middle, named, (_, after, inr none, last)) =
    let own = name limits first terminals middle named in
    rw (last.0, none.0, ← last.1, ← none.1) (omega arith)
