-- The bytes of a text, those of its terminals, and those of the texts that a statement puts into rows.
use Rattle.std.proofs.Common.{◌≡◌, ◌≤◌, ℕ, ◌+◌, List, [], ◌∷◌, length, map, drop, inl, inr, ap, arith, length-append, length-drop}
use Rattle.std.specs.Prelude.{sum_by, codes}
use Rattle.std.proofs.lemmas.List.Sums.{sum_by-cons}
use Rattle.std.proofs.lemmas.Bool.Decides.{eqb_tells}
use Rattle.own_model.specs.declared.limit.TheConstants.{NESTING_LEVELS, STATEMENT_BYTES}
use Rattle.own_model.specs.declared.statement.Statement.{Statement}
use Rattle.own_model.specs.TextBytes.{text_bytes, tuple_bytes, put_bytes, asked_bytes}
use Rattle.sql_lex.specs.declared.token.Token.{Token}
use Rattle.sql_lex.specs.declared.token.TokenKind.TheVariants.{Quoted}
use Rattle.sql_lex.specs.Lexing.{Lexing}
use Rattle.sql_lex.specs.Tokens.{doubled, quoted}
use Rattle.grammar_model.specs.Answer.{Answer, IsAnswer, GivesStatement, StopsAt, PassesLimit}
use Rattle.grammar_model.specs.Grammar as rules
use Rattle.grammar_model.specs.Language as languages
use Rattle.grammar_model.specs.Language.{Language, one, ◌>>=◌, ◌>>◌, ◌or◌, pure, optional, many_from, listed, bracketed}
use Rattle.grammar_model.specs.Limits.{Limits, store_limits}
use Rattle.grammar_model.specs.Readable.{IsWritten, request_of}
use Rattle.grammar_model.specs.Terminal.{Terminal, Terminals, Written, Slot, terminal_of}
use Rattle.grammar_model.specs.Terminals.{IsCutInto}
use Rattle.grammar_model.specs.Values.{TextIs}

-- the bytes of terminals
abbrev pub written : Terminals → ℕ
written [] = 0
written (Written kind bytes start ∷ rest) = length bytes + written rest
written (Slot ∷ rest) = written rest

-- the terminals that the language takes have at least as many bytes as its value counts
abbrev pub Takes : {A : Type 0} → (A → ℕ) → Language A → Type 0
Takes {A} count language = (value : A) (terminals rest : Terminals) → language value terminals rest → count value + written rest ≤ written terminals

-- a value that counts for nothing
abbrev pub none : {A : Type 0} → A → ℕ
none value = 0

-- one terminal less has no more
less_step : (terminal : Terminal) (rest : Terminals) → written rest ≤ written (terminal ∷ rest)
less_step (Written kind bytes start) rest = omega arith
less_step Slot rest = omega arith

pub written-less : {terminal : Terminal} {terminals rest : Terminals} → terminals ≡ terminal ∷ rest → written rest ≤ written terminals
written-less {terminal} {terminals} {rest} is = rw is (less_step terminal rest)

-- between its quotes a text has as many bytes as its value, or more
double_step : (byte : ℕ) (value : List ℕ) → length value ≤ length (doubled value) → length (byte ∷ value) ≤ length (doubled (byte ∷ value))
double_step byte value later = elim (eqb_tells byte 39) [ inl (is, same) ↦ rw is (omega arith) | inr (is, other) ↦ rw is (omega arith) ]

doubled-long : (value : List ℕ) → length value ≤ length (doubled value)
doubled-long [] = omega arith
doubled-long (byte ∷ value) = double_step byte value (doubled-long value)

-- a text counts its bytes
text_step : (value : List ℕ) (start : ℕ) (terminal : Terminal) (rest : Terminals) → terminal ≡ Written Quoted (quoted value) start
    → length value + written rest ≤ written (terminal ∷ rest)
text_step value start terminal rest is = rw is (omega (arith, doubled-long value, length-append (doubled value) (39 ∷ [])))

text-takes : (limits : Limits) → Takes length (rules.text limits)
unfolding rules.text
text-takes limits value terminals rest by =
    let is : TextIs limits value by.0 = by.2 in
    rw by.1 (text_step value is.start by.0 rest is.is)

-- a number counts for nothing
int-takes : Takes none rules.int
unfolding rules.int rules.number
int-takes value terminals rest (inl (_, _, sign, digits)) =
    let first = written-less sign.1 in
    let second = written-less digits.1 in
    omega arith
int-takes value terminals rest (inr digits) = let first = written-less digits.1 in omega arith

-- a literal counts the bytes that it puts, and a tuple those of its literals
pub literal-takes : (limits : Limits) → Takes text_bytes (rules.literal limits)
unfolding rules.literal
literal-takes limits value terminals rest (inl (found, middle, by, last)) =
    let less = written-less by.1 in
    rw (last.0, ← last.1) (omega arith)
literal-takes limits value terminals rest (inr (inl (found, middle, by, last))) =
    rw (last.0, ← last.1) (text-takes limits found terminals middle by)
literal-takes limits value terminals rest (inr (inr (found, middle, by, last))) =
    rw (last.0, ← last.1) (int-takes found terminals middle by)

-- lists count all of their values
many-takes : {A : Type 0} (count : A → ℕ) (languages : ℕ → Language A) → ((before : ℕ) → Takes count (languages before))
    → (values : List A) (before : ℕ) (terminals rest : Terminals) → many_from languages before values terminals rest
    → sum_by count values + written rest ≤ written terminals
many-takes count languages takes [] before terminals rest by = rw by (omega arith)
many-takes count languages takes (value ∷ values) before terminals rest by =
    let first = takes before value terminals by.0 by.1 in
    let others = many-takes count languages takes values (before + 1) by.0 rest by.2 in
    rw (sum_by-cons count value values) (omega arith)

pub listed-takes : {A : Type 0} (count : A → ℕ) (language : Language A) → Takes count language → Takes (sum_by count) (listed language)
listed-takes {A} count language takes values terminals rest (first, middle, by, (others, end, more, last)) =
    let one = takes first terminals middle by in
    let all = many-takes count _ (λ before. after_comma) others 0 middle end more in
    rw (last.0, ← last.1, sum_by-cons count first others) (omega arith)
  where
    after_comma : Takes count (languages.mark (codes ",") >> language)
    after_comma value terminals rest (sign, middle, by, found) =
        let comma = written-less by.1 in
        let own = takes value middle rest found in
        omega arith

pub bracketed-takes : {A : Type 0} (count : A → ℕ) (language : Language A) → Takes count language → Takes count (bracketed language)
bracketed-takes count language takes value terminals rest (_, first, opens, (found, middle, by, (_, _, closes, last))) =
    let left = written-less opens.1 in
    let own = takes found first middle by in
    let right = written-less closes.1 in
    rw (last.0, ← last.1) (omega arith)

tuple-takes : (limits : Limits) → Takes tuple_bytes (rules.tuple limits)
unfolding rules.tuple
tuple-takes limits = bracketed-takes tuple_bytes _ (listed-takes text_bytes _ (literal-takes limits))

-- the names of tables and columns count for nothing
pub name-takes : (limits : Limits) → Takes none (rules.name limits)
unfolding rules.name
name-takes limits value terminals rest by = let less = written-less by.1 in omega arith

pub names-takes : (limits : Limits) → Takes none (bracketed (rules.names limits))
unfolding rules.names
names-takes limits value terminals rest by =
    let names = bracketed-takes (sum_by none) _ (listed-takes none _ (name-takes limits)) value terminals rest by in
    omega arith

pub columns-takes : (limits : Limits) → Takes none (optional (bracketed (rules.names limits)))
columns-takes limits value terminals rest (inl (found, middle, by, last)) = rw (← last.1) (names-takes limits found terminals middle by)
columns-takes limits value terminals rest (inr last) = rw last.1 (omega arith)

-- an INSERT counts the bytes of its tuples
insert-takes : (limits : Limits) → Takes put_bytes (rules.insert limits)
unfolding rules.insert put_bytes
insert-takes limits value terminals rest (_, a, insert, (_, b, into, (table, c, named, (columns, d, bracket, (_, e, values, (rows, f, tuples, last)))))) =
    let first = written-less insert.1 in
    let second = written-less into.1 in
    let third = name-takes limits table b c named in
    let fourth = columns-takes limits columns c d bracket in
    let fifth = written-less values.1 in
    let sixth = listed-takes tuple_bytes _ (tuple-takes limits) rows e f tuples in
    rw (last.0, ← last.1) (omega arith)

-- the statements of the other rules put no text
abbrev PutsNone : Language Statement → Type 0
PutsNone language = (value : Statement) (terminals rest : Terminals) → language value terminals rest → put_bytes value ≡ 0

create-none : (limits : Limits) → PutsNone (rules.create limits)
unfolding rules.create put_bytes
create-none limits value terminals rest by = ap put_bytes by.3.3.3.3.3.0

view-none : (limits : Limits) (levels : ℕ) → PutsNone (rules.view limits levels)
unfolding rules.view put_bytes
view-none limits levels value terminals rest by = ap put_bytes by.3.3.3.3.3.0

update-none : (limits : Limits) (levels : ℕ) → PutsNone (rules.update limits levels)
unfolding rules.update put_bytes
update-none limits levels value terminals rest by = ap put_bytes by.3.3.3.3.3.0

delete-none : (limits : Limits) (levels : ℕ) → PutsNone (rules.delete limits levels)
unfolding rules.delete put_bytes
delete-none limits levels value terminals rest by = ap put_bytes by.3.3.3.3.0

control-none : PutsNone rules.control
unfolding rules.control put_bytes
control-none value terminals rest (inl by) = ap put_bytes by.3.0
control-none value terminals rest (inr (inl by)) = ap put_bytes by.3.0
control-none value terminals rest (inr (inr (inl by))) = ap put_bytes by.3.0
control-none value terminals rest (inr (inr (inr (inl (_, _, _, inl by))))) = ap put_bytes by.3.0
control-none value terminals rest (inr (inr (inr (inl (_, _, _, inr (inl by)))))) = ap put_bytes by.3.0
control-none value terminals rest (inr (inr (inr (inl (_, _, _, inr (inr by)))))) = ap put_bytes by.3.0
control-none value terminals rest (inr (inr (inr (inr (inl by))))) = ap put_bytes by.3.0
control-none value terminals rest (inr (inr (inr (inr (inr by))))) = ap put_bytes by.3.0

gdpr-none : (limits : Limits) → PutsNone (rules.gdpr limits)
unfolding rules.gdpr put_bytes
gdpr-none limits value terminals rest (_, _, _, inl by) = ap put_bytes by.3.3.3.0
gdpr-none limits value terminals rest (_, _, _, inr by) = ap put_bytes by.3.3.3.0

-- a whole statement's terminals have at least the bytes that it puts
statement-takes : (limits : Limits) (levels : ℕ) (value : Statement) (terminals : Terminals) → rules.statement limits levels value terminals []
    → put_bytes value ≤ written terminals
unfolding rules.statement put_bytes
statement-takes limits levels value terminals (inl by) = rw (create-none limits value terminals [] by) (omega arith)
statement-takes limits levels value terminals (inr (inl by)) = rw (view-none limits levels value terminals [] by) (omega arith)
statement-takes limits levels value terminals (inr (inr (inl by))) = rw by.3.0 (omega arith)
statement-takes limits levels value terminals (inr (inr (inr (inl by)))) = let takes = insert-takes limits value terminals [] by in omega arith
statement-takes limits levels value terminals (inr (inr (inr (inr (inl by))))) = rw (update-none limits levels value terminals [] by) (omega arith)
statement-takes limits levels value terminals (inr (inr (inr (inr (inr (inl by)))))) = rw (delete-none limits levels value terminals [] by) (omega arith)
statement-takes limits levels value terminals (inr (inr (inr (inr (inr (inr (inl by))))))) = rw (control-none value terminals [] by) (omega arith)
statement-takes limits levels value terminals (inr (inr (inr (inr (inr (inr (inr by))))))) = rw (gdpr-none limits value terminals [] by) (omega arith)

-- from the byte from which on a text isn't cut yet, its terminals lie one after another up to its end
pub cut-within : (lexing : Lexing) (tokens : List Token) → IsCutInto lexing tokens → lexing.at + written (map terminal_of tokens) ≤ length lexing.text
cut-within lexing [] ends = let within = ends.onward in omega arith
cut-within lexing (token ∷ tokens) (inl (next, cut)) =
    let after = cut-within (record lexing { at = token.end }) tokens cut in
    let split = ap length next.begins.split in
    let onward = next.stands.onward in
    omega (arith, length-append token.text.now (drop token.end lexing.text), length-drop token.start lexing.text, length-drop token.end lexing.text)
cut-within lexing (token ∷ tokens) (inr (lost, last)) =
    let onward = lost.fault.stands.onward in
    rw (last, lost.bytes) (omega (arith, lost.fault.within))

-- the terminals of a statement that can stand in a history have no more bytes than a statement may have
pub written-short : (found : Statement) (is : IsWritten STATEMENT_BYTES found) → written is.terminals ≤ STATEMENT_BYTES
written-short found is =
    let within = cut-within (record { text = is.text; at = 0 }) is.cut.0 is.cut.1 in
    let same = ap written is.cut.2 in
    let short = is.short in
    omega arith

-- a text's statement puts no more than the text has
pub answer-within : (text : List ℕ) (answer : Answer) → IsAnswer text answer → asked_bytes (request_of answer) ≤ length text
unfolding asked_bytes
answer-within text (GivesStatement found) is =
    let puts = statement-takes store_limits NESTING_LEVELS found is.terminals is.answers.0 in
    let within = cut-within (record { text = text; at = 0 }) is.cut.0 is.cut.1 in
    let same = ap written is.cut.2 in
    omega arith
answer-within text (StopsAt byte) is = omega arith
answer-within text (PassesLimit passed) is = omega arith
