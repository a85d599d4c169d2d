-- The canonical text of a CREATE has at most twice as many bytes as a text by which it is given.
use Rattle.std.proofs.Common.{◌≡◌, ◌≤◌, ◌^◌, ◌-◌, ℕ, suc, ◌+◌, ◌*◌, List, [], ◌∷◌, Bool, true, false, cond, ltb, length, map, drop, decimal, inl, inr, refl, sym, ap, ◌∙◌, arith, length-append, length-drop}
use Rattle.std.specs.Prelude.{IsTrue, ◌&&◌}
use Rattle.std.specs.Char.{is_ascii_digit}
use Rattle.std.specs.List.{list_all}
use Rattle.std.proofs.Math.Nat.{mul-le-mul_right, mul_assoc, pow-succ'}
use Rattle.std.proofs.lemmas.Bool.{false≢true, ltb-true}
use Rattle.std.proofs.lemmas.Fmt.{length-decimal-le}
use Rattle.own_model.specs.declared.limit.TheConstants.{NESTING_LEVELS}
use Rattle.own_model.specs.declared.statement.Statement.TheVariants as statement
use Rattle.sql_lex.specs.declared.token.Token.{Token}
use Rattle.sql_lex.specs.declared.token.TokenKind.{TokenKind}
use Rattle.sql_lex.specs.declared.token.TokenKind.TheVariants.{Name, Keyword, Number, Quoted, Mark}
use Rattle.sql_lex.specs.Lexing.{Lexing}
use Rattle.sql_lex.specs.Tokens.{IsSpelled, is_number}
use Rattle.text_model.specs.Canonical.{canonical, statement_words}
use Rattle.grammar_model.specs.Limits.{store_limits}
use Rattle.grammar_model.specs.Readable.{IsWritten}
use Rattle.grammar_model.specs.Terminal.{Written, terminal_of}
use Rattle.grammar_model.specs.Terminals.{IsCutInto}
use Rattle.grammar_model.specs.Values.{digits_after}
use Rattle.grammar_model.proofs.OwnRule.{written-own}
use Rattle.state_model.specs.Created.{Create, OfTable, OfView, statement_of, text_of}
use Rattle.state_model.proofs.CreateBytes.{create}
use Rattle.state_model.proofs.TokenBytes.{bytes-spaced, bytes_in, bytes_of, numeral, word_bytes}
use Rattle.state_model.proofs.ViewBytes.{view}

-- ---- numbers

small_digit : (digit : ℕ) → is_ascii_digit digit ≡ true → digit - 48 ≤ 9
small_digit digit is = grind arith

and-left : (a b : Bool) → (a && b) ≡ true → a ≡ true
and-left false b same = absurd (false≢true same)
and-left true b same = refl

and-right : (a b : Bool) → (a && b) ≡ true → b ≡ true
and-right false b same = absurd (false≢true same)
and-right true b same = same

-- so many digits write a number below that power of ten
digits_below : (number : ℕ) (digits : List ℕ) → list_all is_ascii_digit digits ≡ true → suc (digits_after number digits) ≤ suc number * 10 ^ length digits
digits_below number [] all = omega arith
digits_below number (digit ∷ digits) all =
    let small = small_digit digit (and-left (is_ascii_digit digit) (list_all is_ascii_digit digits) all) in
    let later = digits_below (10 * number + (digit - 48)) digits (and-right (is_ascii_digit digit) (list_all is_ascii_digit digits) all) in
    let step : suc (10 * number + (digit - 48)) ≤ suc number * 10 = omega arith in
    let wide = mul-le-mul_right (10 ^ length digits) step in
    let apart : suc number * 10 * 10 ^ length digits ≡ suc number * 10 ^ suc (length digits) = ten_more (suc number) (length digits) in
    omega arith
  where
    ten_more : (n k : ℕ) → n * 10 * 10 ^ k ≡ n * 10 ^ suc k
    ten_more n k = mul_assoc n 10 (10 ^ k) ∙ ap (λ m. n * m) (sym (pow-succ' 10 k))

numeral_short : (digits : List ℕ) → IsTrue (is_number digits) → 1 ≤ length digits → numeral digits ≤ length digits
numeral_short digits is some = by (ltb (digits_after 0 digits) (2 ^ 64)) refl
  where
    all : list_all is_ascii_digit digits ≡ true
    all = are_digits digits is
      where
        are_digits : (digits : List ℕ) → IsTrue (is_number digits) → list_all is_ascii_digit digits ≡ true
        are_digits [] is = absurd (false≢true is)
        are_digits (digit ∷ digits) is = is

    by : (b : Bool) → ltb (digits_after 0 digits) (2 ^ 64) ≡ b → cond b (length (decimal (digits_after 0 digits))) 0 ≤ length digits
    by false same = omega arith
    by true same =
        let below = digits_below 0 digits all in
        length-decimal-le (length digits) (digits_after 0 digits) some (omega arith) (ltb-true (digits_after 0 digits) (2 ^ 64) same)

-- ---- tokens

word_short : (kind : TokenKind) (bytes : List ℕ) (start : ℕ) → IsSpelled kind bytes → 1 ≤ length bytes → word_bytes (Written kind bytes start) ≤ 2 * length bytes
word_short Name bytes start spelled some = omega arith
word_short Keyword bytes start spelled some = omega arith
word_short Number bytes start spelled some = let short = numeral_short bytes spelled some in omega arith
word_short Quoted bytes start spelled some = omega arith
word_short Mark bytes start spelled some = omega arith

-- from the byte from which on a text isn't cut yet, its terminals are written as at most twice the bytes that are left
cut_bytes : (lexing : Lexing) (tokens : List Token) → IsCutInto lexing tokens → 2 * lexing.at + bytes_in (map terminal_of tokens) ≤ 2 * length lexing.text
cut_bytes lexing [] ends = let within = ends.onward in omega arith
cut_bytes lexing (token ∷ tokens) (inl (next, cut)) =
    let later = cut_bytes (record lexing { at = token.end }) tokens cut in
    let split = ap length next.begins.split in
    let onward = next.stands.onward in
    let some = next.onward in
    let within = next.within in
    let long : token.start + length token.text.now ≡ token.end = omega (arith, length-append token.text.now (drop token.end lexing.text), length-drop token.start lexing.text, length-drop token.end lexing.text) in
    let short = word_short token.kind token.text.now token.start next.begins.spelled (omega arith) in
    omega arith
cut_bytes lexing (token ∷ tokens) (inr (lost, last)) =
    let onward = lost.fault.stands.onward in
    let within = lost.fault.within in
    rw (last, lost.bytes, lost.kind) (omega arith)

-- ---- creates

words_short : (create_of : Create) (most : ℕ) → IsWritten most (statement_of create_of) → bytes_of (statement_words (statement_of create_of)) ≤ 2 * most
words_short (OfTable table) most is =
    let spelled = create store_limits (statement.CreateTable table) is.terminals [] (written-own store_limits NESTING_LEVELS (statement.CreateTable table) is.terminals is.spells) in
    let within = cut_bytes (record { text = is.text; at = 0 }) is.cut.0 is.cut.1 in
    let same = ap bytes_in is.cut.2 in
    let short = is.short in
    omega arith
words_short (OfView found) most is =
    let spelled = view store_limits NESTING_LEVELS (statement.CreateView found) is.terminals [] (written-own store_limits NESTING_LEVELS (statement.CreateView found) is.terminals is.spells) in
    let within = cut_bytes (record { text = is.text; at = 0 }) is.cut.0 is.cut.1 in
    let same = ap bytes_in is.cut.2 in
    let short = is.short in
    omega arith

text_long : (create_of : Create) → length (text_of create_of).text ≤ bytes_of (statement_words (statement_of create_of))
unfolding canonical
text_long (OfTable table) = bytes-spaced (statement_words (statement.CreateTable table))
text_long (OfView found) = bytes-spaced (statement_words (statement.CreateView found))

pub canonical-short : (create_of : Create) (most : ℕ) → IsWritten most (statement_of create_of) → length (text_of create_of).text ≤ 2 * most
canonical-short create_of most is = let first = text_long create_of in let second = words_short create_of most is in omega arith
