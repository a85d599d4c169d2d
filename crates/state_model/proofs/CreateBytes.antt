-- The bytes of a canonical CREATE TABLE.
use Rattle.std.proofs.Common.{ℕ, suc, ◌+◌, List, ◌∷◌, length, inl, inr, arith}
use Rattle.std.specs.Prelude.{codes}
use Rattle.text_model.specs.Canonical.{attr_words, column_def_words, create_words, kind_word, part_words, ref_kind_word, refers_words, statement_words}
use Rattle.text_model.specs.Words.{Words, bracketed, listed, names_words, word}
use Rattle.grammar_model.specs.Grammar as rules
use Rattle.grammar_model.specs.Language as languages
use Rattle.grammar_model.specs.Language.{Language, ◌>>=◌, ◌>>◌, pure, optional}
use Rattle.grammar_model.specs.Limits.{Limits}
use Rattle.state_model.proofs.ListBytes.{Spells, divided, flag, flagged, in_brackets, many}
use Rattle.state_model.proofs.TokenBytes.{Covers, bytes-append, bytes_of, keyword, mark, name}

-- one name
pub a_name : (limits : Limits) → Spells word (rules.name limits)
a_name limits found terminals rest by = let own = name limits found terminals rest by in omega arith

in_comma : {A : Type 0} (words : A → Words) (language : Language A) → Spells words language → Spells (listed words) (languages.listed language)
in_comma words language spells = divided words (codes ",") (languages.mark (codes ",")) (mark (codes ",")) language spells

names : (limits : Limits) → Spells names_words (rules.names limits)
unfolding rules.names
names limits = in_comma word (rules.name limits) (a_name limits)

-- two keywords, one behind the other
two : (first second : List ℕ) → Covers (λ _. suc (length first) + suc (length second)) (languages.word first >> languages.word second)
two first second found terminals rest (_, middle, one, other) =
    let own = keyword first tt terminals middle one in
    let next = keyword second found middle rest other in
    omega arith

-- ---- references

ref_kind : Covers (λ found. suc (length (ref_kind_word found))) rules.ref_kind
unfolding rules.ref_kind ref_kind_word
ref_kind found terminals rest (inl (_, end, (_, middle, by, only), last)) =
    let own = keyword (codes "REFERENCES") tt terminals middle by in
    let more = flag (codes "ONLY") _ middle end only in
    rw (last.0, ← last.1) (omega arith)
ref_kind found terminals rest (inr (inl (_, middle, by, last))) = let own = keyword (codes "OWNED_BY") tt terminals middle by in rw (last.0, ← last.1) (omega arith)
ref_kind found terminals rest (inr (inr (inl (_, middle, by, last)))) = let own = keyword (codes "OWNS") tt terminals middle by in rw (last.0, ← last.1) (omega arith)
ref_kind found terminals rest (inr (inr (inr (inl (_, middle, by, last))))) = let own = keyword (codes "ACCESSED_BY") tt terminals middle by in rw (last.0, ← last.1) (omega arith)
ref_kind found terminals rest (inr (inr (inr (inr (_, middle, by, last))))) = let own = keyword (codes "ACCESSES") tt terminals middle by in rw (last.0, ← last.1) (omega arith)

refers : (limits : Limits) → Spells refers_words (rules.refers limits)
unfolding rules.refers refers_words
refers limits found terminals rest (kind, a, kinded, (table, b, named, (column, c, bracket, last))) =
    let first = ref_kind kind terminals a kinded in
    let second = name limits table a b named in
    let third = in_brackets word (rules.name limits) (a_name limits) column b c bracket in
    rw (last.0, ← last.1) (omega arith)

-- ---- columns

attr : (limits : Limits) → Spells attr_words (rules.attr limits)
unfolding rules.attr attr_words
attr limits found terminals rest (inl (_, middle, by, last)) = let own = two (codes "PRIMARY") (codes "KEY") tt terminals middle by in rw (last.0, ← last.1) (omega arith)
attr limits found terminals rest (inr (inl (_, middle, by, last))) = let own = two (codes "NOT") (codes "NULL") tt terminals middle by in rw (last.0, ← last.1) (omega arith)
attr limits found terminals rest (inr (inr (inl (_, middle, by, last)))) = let own = keyword (codes "UNIQUE") tt terminals middle by in rw (last.0, ← last.1) (omega arith)
attr limits found terminals rest (inr (inr (inr (value, middle, by, last)))) = rw (last.0, ← last.1) (refers limits value terminals middle by)

kind : Covers (λ found. suc (length (kind_word found))) rules.kind
unfolding rules.kind kind_word
kind found terminals rest (inl (_, middle, by, last)) = let own = keyword (codes "INT") tt terminals middle by in rw (last.0, ← last.1) (omega arith)
kind found terminals rest (inr (_, middle, by, last)) = let own = keyword (codes "TEXT") tt terminals middle by in rw (last.0, ← last.1) (omega arith)

column_part : (limits : Limits) → Spells part_words (rules.column_part limits)
unfolding rules.column_part part_words column_def_words
column_part limits found terminals rest (column, a, named, (kinded, b, kind_by, (attrs, c, attrs_by, last))) =
    let first = name limits column terminals a named in
    let second = kind kinded a b kind_by in
    let third = many attr_words (λ _. rules.attr limits) (λ _. attr limits) attrs 0 b c attrs_by in
    rw (last.0, ← last.1) (omega arith)

-- ---- the other parts

foreign_part : (limits : Limits) → Spells part_words (rules.foreign_part limits)
unfolding rules.foreign_part part_words
foreign_part limits found terminals rest (_, a, foreign, (_, b, key, (column, c, bracket, (value, d, refers_by, last)))) =
    let first = keyword (codes "FOREIGN") tt terminals a foreign in
    let second = keyword (codes "KEY") tt a b key in
    let third = in_brackets word (rules.name limits) (a_name limits) column b c bracket in
    let fourth = refers limits value c d refers_by in
    let apart = bytes-append (bracketed (word column)) (refers_words value) in
    rw (last.0, ← last.1) (omega arith)

-- parts behind ON
get_part : (limits : Limits) → Covers (λ found. bytes_of (part_words found)) (languages.word (codes "ON") >> rules.get_part limits)
unfolding rules.get_part part_words
get_part limits found terminals rest (_, on_end, on, (_, a, get, (column, b, named, (_, c, anon, (hidden, d, bracket, last))))) =
    let zeroth = keyword (codes "ON") tt terminals on_end on in
    let first = keyword (codes "GET") tt on_end a get in
    let second = name limits column a b named in
    let third = keyword (codes "ANON") tt b c anon in
    let fourth = in_brackets names_words (rules.names limits) (names limits) hidden c d bracket in
    rw (last.0, ← last.1) (omega arith)

del_part : (limits : Limits) → Covers (λ found. bytes_of (part_words found)) (languages.word (codes "ON") >> rules.del_part limits)
unfolding rules.del_part part_words
del_part limits found terminals rest (_, on_end, on, (_, a, del, (column, b, named, inl (ruled, c, (_, d, anon, bracket), last)))) =
    let zeroth = keyword (codes "ON") tt terminals on_end on in
    let first = keyword (codes "DEL") tt on_end a del in
    let second = name limits column a b named in
    let third = keyword (codes "ANON") tt b d anon in
    let fourth = in_brackets names_words (rules.names limits) (names limits) ruled d c bracket in
    rw (last.0, ← last.1) (omega arith)
del_part limits found terminals rest (_, on_end, on, (_, a, del, (column, b, named, inr (_, c, gone, last)))) =
    let zeroth = keyword (codes "ON") tt terminals on_end on in
    let first = keyword (codes "DEL") tt on_end a del in
    let second = name limits column a b named in
    let third = keyword (codes "DELETE_ROW") tt b c gone in
    rw (last.0, ← last.1) (omega arith)

part : (limits : Limits) → Spells part_words (rules.part limits)
unfolding rules.part part_words
part limits found terminals rest (inl by) = column_part limits found terminals rest by
part limits found terminals rest (inr (inl (column, end, (_, middle, keys, bracket), last))) =
    let first = two (codes "PRIMARY") (codes "KEY") tt terminals middle keys in
    let second = in_brackets word (rules.name limits) (a_name limits) column middle end bracket in
    rw (last.0, ← last.1) (omega arith)
part limits found terminals rest (inr (inr (inl (column, end, (_, middle, unique, bracket), last)))) =
    let first = keyword (codes "UNIQUE") tt terminals middle unique in
    let second = in_brackets word (rules.name limits) (a_name limits) column middle end bracket in
    rw (last.0, ← last.1) (omega arith)
part limits found terminals rest (inr (inr (inr (inl by)))) = foreign_part limits found terminals rest by
part limits found terminals rest (inr (inr (inr (inr (_, middle, on, inl by))))) = get_part limits found terminals rest (tt, middle, on, by)
part limits found terminals rest (inr (inr (inr (inr (_, middle, on, inr by))))) = del_part limits found terminals rest (tt, middle, on, by)

-- a whole CREATE TABLE
pub create : (limits : Limits) → Spells statement_words (rules.create limits)
unfolding rules.create statement_words create_words
create limits found terminals rest (_, a, create_by, (subject, b, flag_by, (_, c, table, (called, d, named, (parts, e, bracket, last))))) =
    let first = keyword (codes "CREATE") tt terminals a create_by in
    let second = flag (codes "DATA_SUBJECT") subject a b flag_by in
    let third = keyword (codes "TABLE") tt b c table in
    let fourth = name limits called c d named in
    let fifth = in_brackets (listed part_words) (languages.listed (rules.part limits)) (in_comma part_words (rules.part limits) (part limits)) parts d e bracket in
    let apart = bytes-append (flagged (codes "DATA_SUBJECT") subject) (codes "TABLE" ∷ called ∷ bracketed (listed part_words parts)) in
    rw (last.0, ← last.1) (omega arith)
