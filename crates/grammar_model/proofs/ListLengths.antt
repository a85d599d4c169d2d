-- The lists of a text: each value stands after a mark of its own, so a list has no more of them than bytes in its text.
use Rattle.std.proofs.Common.{◌≡◌, ◌≤◌, ℕ, ◌+◌, List, [], ◌∷◌, length, ap, arith}
use Rattle.std.specs.Prelude.{true, codes}
use Rattle.sql_lex.specs.declared.token.TokenKind.TheVariants.{Name, Keyword, Number, Quoted, Mark}
use Rattle.grammar_model.specs.Language as languages
use Rattle.grammar_model.specs.Language.{Language, ◌>>◌, many_from, listed, bracketed}
use Rattle.grammar_model.specs.Terminal.{Terminal, Terminals, Written, Slot, is_mark}
use Rattle.grammar_model.proofs.Shrinking.{Shrinks}
use Rattle.grammar_model.proofs.TextBytes.{written, written-less}

-- a mark has a byte
mark-byte : (byte : ℕ) (bytes : List ℕ) (terminal : Terminal) (rest : Terminals) → is_mark (byte ∷ bytes) terminal ≡ true → 1 + written rest ≤ written (terminal ∷ rest)
mark-byte byte bytes (Written Mark [] start) rest is = cc
mark-byte byte bytes (Written Mark (first ∷ others) start) rest is = omega arith
mark-byte byte bytes (Written Name spelled start) rest is = cc
mark-byte byte bytes (Written Keyword spelled start) rest is = cc
mark-byte byte bytes (Written Number spelled start) rest is = cc
mark-byte byte bytes (Written Quoted spelled start) rest is = cc
mark-byte byte bytes Slot rest is = cc

mark-takes : (byte : ℕ) (bytes : List ℕ) (value : Unit {0}) (terminals rest : Terminals) → languages.mark (byte ∷ bytes) value terminals rest
    → 1 + written rest ≤ written terminals
mark-takes byte bytes value terminals rest by = rw by.1 (mark-byte byte bytes by.0 rest by.2)

-- what stands after a comma each counts one for each of them
after_commas : {A : Type 0} (language : Language A) → Shrinks language
    → (values : List A) (before : ℕ) (terminals rest : Terminals) → many_from (λ _. languages.mark (codes ",") >> language) before values terminals rest
    → length values + written rest ≤ written terminals
after_commas language one [] before terminals rest by = rw by (omega arith)
after_commas language one (value ∷ values) before terminals rest (middle, (sign, start, comma, found), more) =
    let mark = mark-takes 44 [] sign terminals start comma in
    let first = one value start middle found in
    let others = after_commas language one values (before + 1) middle rest more in
    omega arith

-- a list in brackets has no more values than its terminals have bytes
pub list-takes : {A : Type 0} (language : Language A) → Shrinks language
    → (values : List A) (terminals rest : Terminals) → bracketed (listed language) values terminals rest → length values + written rest ≤ written terminals
list-takes language one values terminals rest (sign, first, opens, (found, middle, (value, after, own, (others, end, more, is)), (_, _, closes, last))) =
    let left = mark-takes 40 [] sign terminals first opens in
    let head = one value first after own in
    let tail = after_commas language one others 0 after end more in
    let right = written-less closes.1 in
    let joined = ap written is.1 in
    let ended = ap written last.1 in
    rw (last.0, is.0) (omega arith)
