-- The texts in quotes of a text in UTF-8 are in UTF-8.
use Rattle.std.proofs.Common.{◌≡◌, ℕ, zero, suc, ◌+◌, ◌<◌, List, [], ◌∷◌, ◌++◌, length, map, Bool, true, false, inl, inr, take, drop, get_or, refl, sym, ap, ◌∙◌, subst, arith, append_assoc, length-append, take-append-drop, IsUtf8}
use Rattle.std.specs.Prelude.{◌==◌}
use Rattle.std.specs.List.{AllByRecursion}
use Rattle.std.proofs.Math.Seq.{drop-append_seam, get_or-append_seam, take-append_seam, take-append-add, drop-append-add}
use Rattle.std.proofs.lemmas.Bool.{eqb-true}
use Rattle.std.proofs.lemmas.Str.{IsCharBoundary-after_ascii, IsCharBoundary-before_ascii, IsUtf8-append, IsUtf8-drop, IsUtf8-from_ascii, IsUtf8-take}
use Rattle.sql_lex.specs.declared.token.Token.{Token}
use Rattle.sql_lex.specs.declared.token.TokenKind.TheVariants.{Quoted}
use Rattle.sql_lex.specs.Lexing.{IsNext, Lexing}
use Rattle.sql_lex.specs.Tokens.{doubled, quoted}
use Rattle.grammar_model.specs.Terminal.{Terminal, Terminals, Written, terminal_of}
use Rattle.grammar_model.specs.Terminals.{AreTerminals, IsCutInto, IsLost}

-- what stands before a byte of ASCII is in UTF-8, and so is what stands behind it
around_ascii : (front after : List ℕ) (byte : ℕ) → byte < 128 → IsUtf8 (front ++ byte ∷ after) → IsUtf8 front × IsUtf8 after
around_ascii front after byte ascii is =
    let all = front ++ byte ∷ after in
    let here = get_or-append_seam front byte after 0 in
    let whole = length-append front (byte ∷ after) in
    let before = IsUtf8-take all (length front) is (IsCharBoundary-before_ascii all (length front) (omega arith) (omega arith)) in
    let behind = IsUtf8-drop all (length front + 1) is (IsCharBoundary-after_ascii all (length front) is (omega arith) (omega arith)) in
    (subst IsUtf8 (take-append_seam front (byte ∷ after)) before, subst IsUtf8 (drop-append-add front (byte ∷ after) 1) behind)

-- a byte of ASCII, and text behind it
with_ascii : (byte : ℕ) (after : List ℕ) → byte < 128 → IsUtf8 after → IsUtf8 (byte ∷ after)
with_ascii byte after ascii is = IsUtf8-append (byte ∷ []) after (IsUtf8-from_ascii (byte ∷ []) one) is
  where
    one : (i : ℕ) → get_or (byte ∷ []) i 0 < 128
    one zero = ascii
    one (suc i) = omega arith

-- text whose quotes are doubled from some byte on is text without their doubles
undoubled_step : (front value : List ℕ) (byte : ℕ) (is_quote : Bool) → (byte == 39) ≡ is_quote
    → ((front : List ℕ) → IsUtf8 (front ++ doubled value) → IsUtf8 (front ++ value))
    → IsUtf8 (front ++ doubled (byte ∷ value)) → IsUtf8 (front ++ byte ∷ value)
undoubled_step front value byte true is rest utf8 =
    let quote = eqb-true byte 39 is in
    let parts = around_ascii front (39 ∷ doubled value) 39 (omega arith) (rw is at utf8) in
    let one = IsUtf8-append front (39 ∷ doubled value) parts.0 parts.1 in
    rw quote (subst IsUtf8 (append_assoc front (39 ∷ []) value) (rest (front ++ 39 ∷ []) (subst IsUtf8 (sym (append_assoc front (39 ∷ []) (doubled value))) one)))
undoubled_step front value byte false is rest utf8 =
    subst IsUtf8 (append_assoc front (byte ∷ []) value) (rest (front ++ byte ∷ []) (subst IsUtf8 (sym (append_assoc front (byte ∷ []) (doubled value))) (rw is at utf8)))

undoubled : (front value : List ℕ) → IsUtf8 (front ++ doubled value) → IsUtf8 (front ++ value)
undoubled front [] utf8 = utf8
undoubled front (byte ∷ value) utf8 = undoubled_step front value byte (byte == 39) refl (λ front is. undoubled front value is) utf8

-- what stands in quotes within a text in UTF-8
between_quotes : (front value after : List ℕ) → IsUtf8 (front ++ (quoted value ++ after)) → IsUtf8 value
between_quotes front value after utf8 =
    let opened = around_ascii front (doubled value ++ 39 ∷ after) 39 (omega arith) (subst (λ l. IsUtf8 (front ++ 39 ∷ l)) (append_assoc (doubled value) (39 ∷ []) after) utf8) in
    let closed = around_ascii (doubled value) after 39 (omega arith) opened.1 in
    undoubled [] value closed.0

-- a terminal whose text in quotes, if it is one, is in UTF-8
abbrev pub IsInUtf8 : Terminal → Type 0
IsInUtf8 terminal = (value : List ℕ) (start : ℕ) → terminal ≡ Written Quoted (quoted value) start → IsUtf8 value

token-in_utf8 : (lexing : Lexing) (token : Token) → IsUtf8 lexing.text → IsNext lexing token → IsInUtf8 (terminal_of token)
token-in_utf8 lexing token utf8 next value start is =
    let same : token.text.now ≡ quoted value = cc in
    let text = sym (take-append-drop token.start lexing.text) in
    between_quotes (take token.start lexing.text) value (drop token.end lexing.text)
    (subst IsUtf8 (text ∙ ap (λ l. take token.start lexing.text ++ l) (next.begins.split ∙ ap (λ l. l ++ drop token.end lexing.text) same)) utf8)

lost-in_utf8 : (lexing : Lexing) (token : Token) → IsLost lexing token → IsInUtf8 (terminal_of token)
lost-in_utf8 lexing token lost value start is = let bytes = lost.bytes in absurd (cc)

tokens-in_utf8 : (lexing : Lexing) (tokens : List Token) → IsUtf8 lexing.text → IsCutInto lexing tokens → AllByRecursion IsInUtf8 (map terminal_of tokens)
tokens-in_utf8 lexing [] utf8 cut = tt
tokens-in_utf8 lexing (token ∷ tokens) utf8 (inl (next, cut)) =
    (token-in_utf8 lexing token utf8 next, tokens-in_utf8 (record lexing { at = token.end }) tokens utf8 cut)
tokens-in_utf8 lexing (token ∷ tokens) utf8 (inr (lost, none)) =
    (lost-in_utf8 lexing token lost, subst (λ l. AllByRecursion IsInUtf8 (map terminal_of l)) (sym none) tt)

-- the terminals of a text in UTF-8 are such
pub terminals-in_utf8 : (text : List ℕ) (terminals : Terminals) → IsUtf8 text → AreTerminals text terminals → AllByRecursion IsInUtf8 terminals
terminals-in_utf8 text terminals utf8 (tokens, cut, same) =
    subst (AllByRecursion IsInUtf8) (sym same) (tokens-in_utf8 (record { text = text; at = 0 }) tokens utf8 cut)
