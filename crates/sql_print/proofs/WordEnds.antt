-- Where the tokens of a canonical text end: at a space, at the end, or at the digits after a minus sign.
use Rattle.std.proofs.Common.{◌≡◌, ◌<◌, ℕ, Bool, true, false, List, [], ◌∷◌, ◌++◌, length, refl, sym, ap, ◌∙◌, arith, codes}
use Rattle.std.specs.Prelude.{◌==◌, ◌&&◌, ◌||◌, not, nat_eq, IsTrue}
use Rattle.std.specs.Char.{is_ascii_digit}
use Rattle.std.specs.List.{list_all, starts_with}
use Rattle.std.proofs.lemmas.Bool.{false≢true}
use Rattle.std.proofs.lemmas.List.Folds.{list_all-append}
use Rattle.sql_lex.specs.declared.token.TokenKind.{TokenKind}
use Rattle.sql_lex.specs.declared.token.TokenKind.TheVariants.{Name, Keyword, Number, Quoted, Mark}
use Rattle.sql_lex.specs.Bytes.{is_space, begins_word, continues_word, first_passes}
use Rattle.sql_lex.specs.Filler.{begins_filler}
use Rattle.sql_lex.specs.Tokens.{IsSpelled, goes_on, is_mark, is_number, marks, quoted}
use Rattle.sql_lex.proofs.FirstByte.{begins-first}
use Rattle.sql_lex.proofs.Marks.{both, not_true, mark-length, passes_among}

-- a space or the end comes next
abbrev pub EndsWord : List ℕ → Type 0
EndsWord [] = Unit {0}
EndsWord (byte ∷ bytes) = byte ≡ 32

-- with one part false, both do not hold
and_false : (b : Bool) → (b && false) ≡ false
and_false true = refl
and_false false = refl

-- no mark has a space
mark-spaced : (bytes : List ℕ) → is_mark (bytes ++ 32 ∷ []) ≡ false
unfolding marks
mark-spaced bytes =
    not_true (is_mark (bytes ++ 32 ∷ []))
    (λ mark.
    let all = passes_among (list_all (λ byte. not (byte == 32))) marks (bytes ++ 32 ∷ []) refl mark in
    false≢true (sym (list_all-append (λ byte. not (byte == 32)) bytes (32 ∷ []) ∙ and_false (list_all (λ byte. not (byte == 32)) bytes)) ∙ all))

-- a token doesn't go on over a space
pub stops-there : (kind : TokenKind) (bytes after : List ℕ) → EndsWord after → first_passes (goes_on kind bytes) after ≡ false
stops-there kind bytes [] ends = refl
stops-there Name bytes (byte ∷ after) ends = ap continues_word ends
stops-there Keyword bytes (byte ∷ after) ends = ap continues_word ends
stops-there Number bytes (byte ∷ after) ends = ap is_ascii_digit ends
stops-there Quoted bytes (byte ∷ after) ends = ap (λ b. b == 39) ends
stops-there Mark bytes (byte ∷ after) ends = ap (λ b. is_mark (bytes ++ b ∷ [])) ends ∙ mark-spaced bytes

-- a minus sign doesn't go on over digits
pub minus-stops : (digits after : List ℕ) → IsTrue (is_number digits) → first_passes (goes_on Mark (codes "-")) (digits ++ after) ≡ false
unfolding marks
minus-stops [] after number = absurd (false≢true number)
minus-stops (digit ∷ digits) after number = refl

-- what begins with neither white space nor a dash begins with no filler
first-no_filler : (byte : ℕ) (bytes : List ℕ) → is_space byte ≡ false → nat_eq 45 byte ≡ false → begins_filler (byte ∷ bytes) ≡ false
first-no_filler byte bytes space dash =
    ap (λ b. b || starts_with nat_eq (byte ∷ bytes) (45 ∷ 45 ∷ [])) space ∙ ap (λ b. b && starts_with nat_eq bytes (45 ∷ [])) dash

-- a word begins no filler
word-no_filler : (bytes : List ℕ) → first_passes begins_word bytes ≡ true → begins_filler bytes ≡ false
word-no_filler [] begins = absurd (false≢true begins)
word-no_filler (byte ∷ bytes) begins = first-no_filler byte bytes (grind (arith, begins)) (grind (arith, begins))

-- a number begins no filler
digit-no_filler : (bytes : List ℕ) → first_passes is_ascii_digit bytes ≡ true → begins_filler bytes ≡ false
digit-no_filler [] begins = absurd (false≢true begins)
digit-no_filler (byte ∷ bytes) begins = first-no_filler byte bytes (grind (arith, begins)) (grind (arith, begins))

-- a text in quotes begins no filler
quote-no_filler : (bytes : List ℕ) → first_passes (λ byte. byte == 39) bytes ≡ true → begins_filler bytes ≡ false
quote-no_filler [] begins = absurd (false≢true begins)
quote-no_filler (byte ∷ bytes) begins = first-no_filler byte bytes (grind (arith, begins)) (grind (arith, begins))

-- what is not so is false
not-true : (b : Bool) → not b ≡ true → b ≡ false
not-true true is = absurd (false≢true is)
not-true false is = refl

-- a mark is no white space
mark-no_space : (byte : ℕ) → is_mark (byte ∷ []) ≡ true → is_space byte ≡ false
unfolding marks
mark-no_space byte mark = not-true (is_space byte) (passes_among (first_passes (λ b. not (is_space b))) marks (byte ∷ []) refl mark)

-- a mark that a space or the end follows begins no filler
mark-no_filler : (bytes after : List ℕ) → is_mark bytes ≡ true → EndsWord after → begins_filler (bytes ++ after) ≡ false
unfolding marks
mark-no_filler [] after mark ends = absurd (omega (arith, (mark-length [] mark).0))
mark-no_filler (a ∷ []) [] mark ends =
    ap (λ b. b || starts_with nat_eq (a ∷ []) (45 ∷ 45 ∷ [])) (mark-no_space a mark) ∙ and_false (nat_eq 45 a)
mark-no_filler (a ∷ []) (byte ∷ after) mark ends =
    ap (λ b. b || starts_with nat_eq (a ∷ byte ∷ after) (45 ∷ 45 ∷ [])) (mark-no_space a mark) ∙ ap (λ b. nat_eq 45 a && (nat_eq 45 b && true)) ends ∙ and_false (nat_eq 45 a)
mark-no_filler (a ∷ b ∷ []) after mark ends = not-true (begins_filler (a ∷ b ∷ [])) (passes_among (λ bytes. not (begins_filler bytes)) marks (a ∷ b ∷ []) refl mark)
mark-no_filler (a ∷ b ∷ c ∷ bytes) after mark ends = absurd (omega (arith, (mark-length (a ∷ b ∷ c ∷ bytes) mark).1))

-- no token of a canonical text is a comment
pub token-no_filler : (kind : TokenKind) (bytes after : List ℕ) → IsSpelled kind bytes → EndsWord after → begins_filler (bytes ++ after) ≡ false
token-no_filler Name bytes after spelled ends = word-no_filler (bytes ++ after) (begins-first Name (bytes ++ after) bytes after (record { split = refl; spelled = spelled; whole = stops-there Name bytes after ends }))
token-no_filler Keyword bytes after spelled ends = word-no_filler (bytes ++ after) (begins-first Keyword (bytes ++ after) bytes after (record { split = refl; spelled = spelled; whole = stops-there Keyword bytes after ends }))
token-no_filler Number bytes after spelled ends = digit-no_filler (bytes ++ after) (begins-first Number (bytes ++ after) bytes after (record { split = refl; spelled = spelled; whole = stops-there Number bytes after ends }))
token-no_filler Quoted bytes after spelled ends = quote-no_filler (bytes ++ after) (begins-first Quoted (bytes ++ after) bytes after (record { split = refl; spelled = spelled; whole = stops-there Quoted bytes after ends }))
token-no_filler Mark bytes after spelled ends = mark-no_filler bytes after spelled ends

-- a minus sign before digits begins no comment
pub minus-no_filler : (digits after : List ℕ) → IsTrue (is_number digits) → begins_filler (codes "-" ++ (digits ++ after)) ≡ false
minus-no_filler [] after number = absurd (false≢true number)
minus-no_filler (digit ∷ digits) after number = ap (λ b. b && true) (no_dash digit (both (is_ascii_digit digit) (list_all is_ascii_digit digits) number).0)
  where
    no_dash : (digit : ℕ) → is_ascii_digit digit ≡ true → nat_eq 45 digit ≡ false
    no_dash digit is = grind (arith, is)

-- a token has a byte
pub some-bytes : (kind : TokenKind) (bytes : List ℕ) → IsSpelled kind bytes → 0 < length bytes
some-bytes kind (byte ∷ bytes) spelled = omega arith
some-bytes Name [] spelled = absurd (false≢true spelled.0)
some-bytes Keyword [] spelled = absurd (false≢true spelled.0)
some-bytes Number [] spelled = absurd (false≢true spelled)
some-bytes Quoted [] (value, same) = absurd (wrong same)
  where
    wrong : [] ≡ quoted value → ⊥
    wrong same = cc
some-bytes Mark [] spelled = (mark-length [] spelled).0
