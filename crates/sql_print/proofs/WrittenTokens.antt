-- The rules of one terminal, and of a number with its sign.
use Rattle.std.proofs.Common.{◌≡◌, ◌≤◌, ◌-◌, ◌^◌, ℕ, suc, zero, Bool, true, false, List, [], ◌∷◌, refl, sym, ap, ◌∙◌, subst, inl, inr, arith, codes}
use Rattle.std.specs.Prelude.{None, IsTrue, ◌&&◌, ℤ, pos, negsuc, map, if◌then◌else◌}
use Rattle.std.specs.Char.{to_ascii_lowercase}
use Rattle.std.specs.Fmt.{decimal, signed_decimal}
use Rattle.std.specs.List.{list_all, list_any}
use Rattle.std.specs.Str.{bytes_eq, str_to_ascii_lowercase}
use Rattle.std.proofs.lemmas.Bool.{false≢true}
use Rattle.std.proofs.lemmas.Slice.Eq.{bytes_eq-Decides}
use Rattle.std.proofs.lemmas.Str.Ascii.{lowercase-lowercase}
use Rattle.own_base.specs.Name.{is_spelled, begins_name, continues_name}
use Rattle.sql_lex.specs.declared.token.TokenKind.TheVariants.{Name, Keyword, Number, Quoted, Mark}
use Rattle.sql_lex.specs.Bytes.{begins_word, continues_word}
use Rattle.sql_lex.specs.Keywords.{keywords, is_keyword}
use Rattle.sql_lex.specs.Tokens as tokens
use Rattle.sql_lex.specs.Tokens.{IsSpelled, is_number, quoted}
use Rattle.grammar_model.specs.Grammar as grammar
use Rattle.grammar_model.specs.Language.{◌>>◌, word, mark, one, optional, pure}
use Rattle.grammar_model.specs.Limits.{Limits}
use Rattle.grammar_model.specs.Parts.{is_there}
use Rattle.grammar_model.specs.Terminal.{Terminal, Terminals, Written, is_word, is_mark}
use Rattle.grammar_model.specs.Values.{NameIs, NumberIs, TextIs, digits_after, signed}
use Rattle.text_model.specs.Words.{Words}
use Rattle.sql_print.proofs.Spelling.{Piece, Single, Signed, word_of, IsPiece, SpellsOne, Writes, writes-piece, writes-then, writes-nothing, writes-pure, IsSound, AreSound}
use Rattle.sql_print.proofs.Rewriting.{Rewrites, Continues, whole, either, then_made, then_pure, then_rule, then_skip, always, perhaps}
use Rattle.sql_print.proofs.Numerals.{decimal_read}

-- after one terminal of a text the others are of it
one-sound : {A : Type 0} (means : A → Terminal → Type 0) (value : A) (terminals rest : Terminals) → AreSound terminals → one means value terminals rest → AreSound rest
one-sound means value terminals rest sound (terminal, same, is) = (subst AreSound same sound).1

-- one terminal, written as a piece
one-rewrites : {A : Type 0} (means : A → Terminal → Type 0) (words : A → List ℕ) → ((value : A) (terminal : Terminal) → IsSound terminal → means value terminal → (piece : Piece) × (word_of piece ≡ words value) × IsPiece piece × ((out rest : Terminals) → SpellsOne piece out rest → one means value out rest))
    → Rewrites (one means) (one means) (λ value. words value ∷ [])
one-rewrites means words written =
    record {
      writes = λ value terminals rest sound (terminal, same, is).
          let found = written value terminal (subst AreSound same sound).0 is in
          subst (λ l. Writes (l ∷ []) (one means value)) found.1 (writes-piece found.0 (one means value) found.2 found.3);
      sound = one-sound means;
    }

-- a keyword
pub key : (wanted : List ℕ) → IsSpelled Keyword wanted → Rewrites (word wanted) (word wanted) (λ _. wanted ∷ [])
key wanted spelled =
    one-rewrites (λ _ terminal. is_word wanted terminal ≡ true) (λ _. wanted)
    (λ value terminal sound is. (
      Single Keyword wanted,
      refl,
      spelled,
      λ out rest (start, same). (Written Keyword wanted start, same, (bytes_eq-Decides (str_to_ascii_lowercase wanted) (str_to_ascii_lowercase wanted)).1 refl),
    ))

-- a mark
pub sign : (wanted : List ℕ) → IsSpelled Mark wanted → Rewrites (mark wanted) (mark wanted) (λ _. wanted ∷ [])
sign wanted spelled =
    one-rewrites (λ _ terminal. is_mark wanted terminal ≡ true) (λ _. wanted)
    (λ value terminal sound is. (
      Single Mark wanted,
      refl,
      spelled,
      λ out rest (start, same). (Written Mark wanted start, same, (bytes_eq-Decides wanted wanted).1 refl),
    ))

-- a keyword is written so whatever a text was
pub key-writes : (wanted : List ℕ) → IsSpelled Keyword wanted → Writes (wanted ∷ []) (word wanted tt)
key-writes wanted spelled =
    writes-piece (Single Keyword wanted) (word wanted tt) spelled
    (λ out rest (start, same). (Written Keyword wanted start, same, (bytes_eq-Decides (str_to_ascii_lowercase wanted) (str_to_ascii_lowercase wanted)).1 refl))

-- a mark is written so whatever a text was
pub sign-writes : (wanted : List ℕ) → IsSpelled Mark wanted → Writes (wanted ∷ []) (mark wanted tt)
sign-writes wanted spelled =
    writes-piece (Single Mark wanted) (mark wanted tt) spelled
    (λ out rest (start, same). (Written Mark wanted start, same, (bytes_eq-Decides wanted wanted).1 refl))

-- a keyword, of which a value is made
pub lone-writes : {A : Type 0} (wanted : List ℕ) → IsSpelled Keyword wanted → (made : A) → Writes (wanted ∷ []) ((word wanted >> pure made) made)
lone-writes wanted spelled made = writes-then (word wanted) (λ _. pure made) tt made (wanted ∷ []) [] (key-writes wanted spelled) (writes-pure made)

-- a keyword that is there or not
pub present : (wanted : List ℕ) → IsSpelled Keyword wanted → Rewrites (optional (word wanted)) (optional (word wanted)) (λ found. if is_there found then wanted ∷ [] else [])
present wanted spelled = whole (either (then_made (key wanted spelled) (λ _. refl)) (then_pure refl))

-- a keyword, and one that may come after it, which is left out
pub left_out-writes : {A : Type 0} (wanted more : List ℕ) → IsSpelled Keyword wanted → (made : A) → Writes (wanted ∷ []) ((word wanted >> optional (word more) >> pure made) made)
left_out-writes wanted more spelled made =
    writes-then (word wanted >> optional (word more)) (λ _. pure made) None made (wanted ∷ []) []
    (writes-then (word wanted) (λ _. optional (word more)) tt None (wanted ∷ []) [] (key-writes wanted spelled) (writes-nothing (optional (word more) None) (λ out. inr (refl, refl))))
    (writes-pure made)

-- the rule of both, where what is made of them has the words of the first
pub left_out : {A : Type 0} {made : A} {before : Words → Words} {words : A → Words} (wanted more : List ℕ) → IsSpelled Keyword wanted → IsSpelled Keyword more → words made ≡ before (wanted ∷ []) → Continues (word wanted >> optional (word more) >> pure made) (word wanted >> optional (word more) >> pure made) before words
left_out {made = made} wanted more spelled other same =
    then_skip (then_rule (key wanted spelled) (perhaps (key more other))) (λ _. always (wanted ∷ []) same (left_out-writes wanted more spelled made))

-- what is in lower case stays as it is
lowered_twice : (bytes : List ℕ) → map to_ascii_lowercase (map to_ascii_lowercase bytes) ≡ map to_ascii_lowercase bytes
lowered_twice [] = refl
lowered_twice (byte ∷ bytes) = λ i. lowercase-lowercase byte i ∷ lowered_twice bytes i

-- a word in lower case is a keyword where it was one before
keyword-lowered : (bytes : List ℕ) → is_keyword (map to_ascii_lowercase bytes) ≡ is_keyword bytes
keyword-lowered bytes = ap (λ l. list_any (λ keyword. bytes_eq (str_to_ascii_lowercase keyword) l) keywords) (lowered_twice bytes)

-- what begins a name in lower case begins a word
begins-lower : (byte : ℕ) → begins_name byte ≡ true → begins_word byte ≡ true
begins-lower byte begins = grind (arith, begins)

-- what may stand in a name in lower case may stand in a word
continues-lower : (byte : ℕ) → continues_name byte ≡ true → continues_word byte ≡ true
continues-lower byte continues = grind (arith, continues)

-- both parts of a test that holds
both : (a b : Bool) → (a && b) ≡ true → (a ≡ true) × (b ≡ true)
both true b is = (refl, is)
both false b is = absurd (false≢true is)

-- each byte of a name in lower case may stand in a word
all-lower : (bytes : List ℕ) → list_all continues_name bytes ≡ true → list_all continues_word bytes ≡ true
all-lower [] all = refl
all-lower (byte ∷ bytes) all =
    let parts = both (continues_name byte) (list_all continues_name bytes) all in
    λ i. continues-lower byte parts.0 i && all-lower bytes parts.1 i

-- a name is spelled as a word
spelled_word : (bytes : List ℕ) → IsTrue (is_spelled bytes) → IsTrue (tokens.is_word bytes)
spelled_word [] spelled = absurd (false≢true spelled)
spelled_word (byte ∷ bytes) spelled =
    let parts = both (begins_name byte) (list_all continues_name bytes) spelled in
    λ i. begins-lower byte parts.0 i && all-lower bytes parts.1 i

-- a name, in lower case
pub name : (limits : Limits) → Rewrites (grammar.name limits) (grammar.name limits) (λ found. found ∷ [])
unfolding grammar.name
name limits =
    one-rewrites (NameIs limits) (λ found. found)
    (λ value terminal sound is. (
      Single Name value,
      refl,
      (spelled_word value is.spelled, ap is_keyword is.lower ∙ keyword-lowered is.bytes ∙ subst IsSound is.is sound),
      λ out rest (start, same). (Written Name value start, same, record { bytes = value; start = start; is = refl; lower = is.lower ∙ sym (lowered_twice is.bytes) ∙ ap (map to_ascii_lowercase) (sym is.lower); spelled = is.spelled; short = is.short }),
    ))

-- a text in quotes
pub text : (limits : Limits) → Rewrites (grammar.text limits) (grammar.text limits) (λ found. quoted found ∷ [])
unfolding grammar.text
text limits =
    one-rewrites (TextIs limits) quoted
    (λ value terminal sound is. (
      Single Quoted (quoted value),
      refl,
      (value, refl),
      λ out rest (start, same). (Written Quoted (quoted value) start, same, record { start = start; is = refl; short = is.short }),
    ))

-- a number of i64
abbrev InRange : ℤ → Type 0
InRange (pos number) = number ≤ 2 ^ 63 - 1
InRange (negsuc number) = suc number ≤ 2 ^ 63

-- the number that digits and a sign write is in range where the digits are
signed-in_range : (negative : Bool) (number : ℕ) → number ≤ (if negative then 2 ^ 63 else 2 ^ 63 - 1) → InRange (signed negative number)
signed-in_range false number small = small
signed-in_range true zero small = omega arith
signed-in_range true (suc number) small = small

-- so is the value of a terminal
number-in_range : (negative : Bool) (value : ℤ) (terminal : Terminal) → NumberIs negative value terminal → InRange value
number-in_range negative value terminal is = subst InRange (sym is.value) (signed-in_range negative (digits_after 0 is.digits) is.in_range)

-- so is that of a number with its sign
int-in_range : (value : ℤ) (terminals rest : Terminals) → grammar.int value terminals rest → InRange value
unfolding grammar.int grammar.number
int-in_range value terminals rest (inl (_, middle, minus, (terminal, same, is))) = number-in_range true value terminal is
int-in_range value terminals rest (inr (terminal, same, is)) = number-in_range false value terminal is

-- after it the terminals are still those of a text
int-sound : (value : ℤ) (terminals rest : Terminals) → AreSound terminals → grammar.int value terminals rest → AreSound rest
unfolding grammar.int grammar.number
int-sound value terminals rest sound (inl (_, middle, minus, (terminal, same, is))) =
    (subst AreSound same (one-sound (λ _ terminal. is_mark (codes "-") terminal ≡ true) (tt {0}) terminals middle sound minus)).1
int-sound value terminals rest sound (inr (terminal, same, is)) = (subst AreSound same sound).1

-- a number in range is written as its decimal digits, after a minus sign where it is negative
int-writes : (value : ℤ) → InRange value → Writes (signed_decimal value ∷ []) (grammar.int value)
unfolding grammar.int grammar.number
int-writes (pos number) small =
    let read = decimal_read number (omega arith) in
    writes-piece (Single Number (decimal number)) (grammar.int (pos number)) read.0
    (λ out rest (start, same). inr (Written Number (decimal number) start, same, record { digits = decimal number; start = start; is = refl; value = ap pos (sym read.1); in_range = subst (λ n. n ≤ 2 ^ 63 - 1) (sym read.1) small }))
int-writes (negsuc number) small =
    let read = decimal_read (suc number) (omega arith) in
    writes-piece (Signed (decimal (suc number))) (grammar.int (negsuc number)) read.0
    (λ out rest (start, place, same). inl (
      tt,
      Written Number (decimal (suc number)) place ∷ rest,
      (Written Mark (codes "-") start, same, refl),
      (Written Number (decimal (suc number)) place, refl, record { digits = decimal (suc number); start = place; is = refl; value = ap (signed true) (sym read.1); in_range = subst (λ n. n ≤ 2 ^ 63) (sym read.1) small }),
    ))

-- a number with its sign
pub int : Rewrites grammar.int grammar.int (λ found. signed_decimal found ∷ [])
int = record { writes = λ value terminals rest sound text. int-writes value (int-in_range value terminals rest text); sound = int-sound }
