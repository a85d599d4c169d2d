-- A CREATE TABLE whose text is counted by 32 bits has fewer than 2 ^ 31 columns.
use Rattle.std.proofs.Common.{◌≡◌, ◌≤◌, ◌<◌, ◌^◌, ℕ, suc, ◌+◌, ◌*◌, List, [], ◌∷◌, ◌++◌, Bool, true, false, length, ap, arith, length-append}
use Rattle.std.specs.Prelude.{codes, filter_map, if◌then◌else◌}
use Rattle.own_model.specs.declared.create.CreateTable.{CreateTable as TableCreate}
use Rattle.own_model.specs.declared.create.Part.{Part}
use Rattle.own_model.specs.declared.create.Part.TheVariants.{Column, Key, Unique, Foreign, Get, Del, DelRow}
use Rattle.own_model.specs.declared.schema.CreateText.{CreateText}
use Rattle.own_model.specs.declared.statement.Statement.TheVariants.{CreateTable}
use Rattle.schema_model.specs.Columns.{column_of, columns_of}
use Rattle.text_model.specs.Canonical.{canonical, column_def_words, create_words, part_words, statement_words}
use Rattle.text_model.specs.Words.{Words, bracketed, listed, others, spaced}
use Rattle.state_model.specs.Created.{OfTable}
use Rattle.disk_model.specs.TextOf.{IsTextOf}

-- between words stands a space
words-spaced : (words : Words) → length words ≤ suc (length (spaced words))
unfolding spaced
words-spaced [] = omega arith
words-spaced (word ∷ []) = omega arith
words-spaced (word ∷ next ∷ words) = let later = words-spaced (next ∷ words) in omega (arith, length-append word (32 ∷ spaced (next ∷ words)))

abbrev count : List Part → ℕ
count parts = length (filter_map column_of parts)

-- a column is two words or more
part-words : (part : Part) (parts : List Part) → 2 * count (part ∷ parts) ≤ length (part_words part) + 2 * count parts
unfolding part_words column_def_words
part-words (Column column) parts = omega arith
part-words (Key column) parts = omega arith
part-words (Unique column) parts = omega arith
part-words (Foreign column refers) parts = omega arith
part-words (Get column hidden) parts = omega arith
part-words (Del column ruled) parts = omega arith
part-words (DelRow column) parts = omega arith

-- so are columns, behind commas
others-words : (parts : List Part) → 2 * count parts ≤ length (others (codes ",") part_words parts)
others-words [] = omega arith
others-words (part ∷ parts) =
    let own = part-words part parts in
    let later = others-words parts in
    omega (arith, length-append (part_words part) (others (codes ",") part_words parts))

-- and between them
listed-words : (parts : List Part) → 2 * count parts ≤ length (listed part_words parts)
listed-words [] = omega arith
listed-words (part ∷ parts) =
    let own = part-words part parts in
    let later = others-words parts in
    omega (arith, length-append (part_words part) (others (codes ",") part_words parts))

-- brackets are two words
bracketed-words : (words : Words) → length (bracketed words) ≡ length words + 2
bracketed-words words = omega (arith, length-append words (codes ")" ∷ []))

-- what stands before the columns is words too
marked : (subject : Bool) (words : Words) → length words ≤ length ((if subject then codes "DATA_SUBJECT" ∷ [] else []) ++ words)
marked true words = omega arith
marked false words = omega arith

-- so a CREATE TABLE has two words for each column
statement-words : (table : TableCreate) → 2 * length (columns_of table) + 5 ≤ length (statement_words (CreateTable table))
unfolding statement_words create_words
statement-words table =
    let own = listed-words table.parts in
    let inner = bracketed-words (listed part_words table.parts) in
    let all = marked table.subject (codes "TABLE" ∷ table.name ∷ bracketed (listed part_words table.parts)) in
    omega arith

-- and a text of 32 bits few columns
pub few-columns : (table : TableCreate) (text : CreateText) → IsTextOf (OfTable table) text → length (columns_of table) < 2 ^ 31
unfolding canonical
few-columns table text is =
    let own = statement-words table in
    let long = words-spaced (statement_words (CreateTable table)) in
    let same = ap (λ (text : CreateText). length text.text) is.canonical in
    let few = is.few in
    omega arith
