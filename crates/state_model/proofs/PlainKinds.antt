-- No column of a table is of the kind of sums.
use Rattle.std.proofs.Common.{ℕ, List, [], ◌∷◌, map}
use Rattle.std.specs.Prelude.{filter_map}
use Rattle.std.specs.List.{AllByRecursion}
use Rattle.own_model.specs.declared.create.ColumnDef.{ColumnDef}
use Rattle.own_model.specs.declared.create.CreateTable.{CreateTable}
use Rattle.own_model.specs.declared.create.Part.{Part}
use Rattle.own_model.specs.declared.create.Part.TheVariants as part
use Rattle.own_model.specs.declared.limit.TheConstants.{NESTING_LEVELS}
use Rattle.own_model.specs.declared.schema.Column.{Column}
use Rattle.own_model.specs.declared.schema.Kind.{Kind}
use Rattle.own_model.specs.declared.schema.Kind.TheVariants as kind
use Rattle.own_model.specs.declared.schema.Schema.{Schema}
use Rattle.own_model.specs.declared.schema.TableDef.{TableDef}
use Rattle.own_model.specs.declared.statement.Statement.{Statement}
use Rattle.own_model.specs.declared.statement.Statement.TheVariants as statement
use Rattle.schema_model.specs.Columns.{column_of, columns_of}
use Rattle.schema_model.specs.NewTable.{new_column, new_table}
use Rattle.schema_model.specs.WithTable.{with_table}
use Rattle.schema_model.proofs.Places.{all-append}
use Rattle.grammar_model.specs.Grammar as rules
use Rattle.grammar_model.specs.Language.{pure}
use Rattle.grammar_model.specs.Limits.{store_limits}
use Rattle.grammar_model.specs.Readable.{IsWritten}
use Rattle.grammar_model.proofs.OwnRule.{written-own}
use Rattle.grammar_model.proofs.Languages.{Gives, gives-bind, gives-bracketed, gives-listed, gives-or, gives-own, gives-pure}

-- a kind of numbers or texts, as a table's column has it
abbrev pub IsPlain : Kind → Type 0
IsPlain kind.Int = Unit {0}
IsPlain kind.Text = Unit {0}
IsPlain kind.Sum = ⊥

-- a column of such a kind
abbrev pub IsPlainColumn : Column → Type 0
IsPlainColumn column = IsPlain column.kind

-- a table of such columns
abbrev pub IsPlainTable : TableDef → Type 0
IsPlainTable table = AllByRecursion IsPlainColumn table.columns

-- a schema of such tables
abbrev pub ArePlainTables : Schema → Type 0
ArePlainTables schema = AllByRecursion IsPlainTable schema.tables

-- a part of a CREATE TABLE: where it is a column, one of such a kind
abbrev IsPlainPart : Part → Type 0
IsPlainPart (part.Column column) = IsPlain column.kind
IsPlainPart _ = Unit {0}

-- a CREATE TABLE of such parts, or another statement
abbrev HasPlainParts : Statement → Type 0
HasPlainParts (statement.CreateTable create) = AllByRecursion IsPlainPart create.parts
HasPlainParts _ = Unit {0}

-- the kind that the grammar gives
kind-plain : Gives IsPlain rules.kind
unfolding rules.kind
kind-plain =
    gives-or IsPlain _ _ (gives-bind IsPlain _ _ (λ _. gives-pure IsPlain kind.Int tt))
    (gives-bind IsPlain _ _ (λ _. gives-pure IsPlain kind.Text tt))

-- a part that is no column
other-plain : (found : Part) → IsPlainPart found → Gives IsPlainPart (pure found)
other-plain found has = gives-pure IsPlainPart found has

-- a column
column_part-plain : Gives IsPlainPart (rules.column_part store_limits)
unfolding rules.column_part
column_part-plain =
    gives-bind IsPlainPart _ _ (λ column. gives-own IsPlain IsPlainPart _ _ kind-plain
    (λ found plain. gives-bind IsPlainPart _ _ (λ attrs. gives-pure IsPlainPart (part.Column _) plain)))

-- a FOREIGN KEY
foreign_part-plain : Gives IsPlainPart (rules.foreign_part store_limits)
unfolding rules.foreign_part
foreign_part-plain =
    gives-bind IsPlainPart _ _ (λ _. gives-bind IsPlainPart _ _ (λ _. gives-bind IsPlainPart _ _ (λ column.
    gives-bind IsPlainPart _ _ (λ found. other-plain (part.Foreign column found) tt))))

-- an ON GET
get_part-plain : Gives IsPlainPart (rules.get_part store_limits)
unfolding rules.get_part
get_part-plain =
    gives-bind IsPlainPart _ _ (λ _. gives-bind IsPlainPart _ _ (λ column. gives-bind IsPlainPart _ _ (λ _.
    gives-bind IsPlainPart _ _ (λ hidden. other-plain (part.Get column hidden) tt))))

-- an ON DEL
del_part-plain : Gives IsPlainPart (rules.del_part store_limits)
unfolding rules.del_part
del_part-plain =
    gives-bind IsPlainPart _ _ (λ _. gives-bind IsPlainPart _ _ (λ column. gives-or IsPlainPart _ _
    (gives-bind IsPlainPart _ _ (λ ruled. other-plain (part.Del column ruled) tt))
    (gives-bind IsPlainPart _ _ (λ _. other-plain (part.DelRow column) tt))))

-- any part
part-plain : Gives IsPlainPart (rules.part store_limits)
unfolding rules.part
part-plain =
    gives-or IsPlainPart _ _ column_part-plain
    (gives-or IsPlainPart _ _ (gives-bind IsPlainPart _ _ (λ column. other-plain (part.Key column) tt))
    (gives-or IsPlainPart _ _ (gives-bind IsPlainPart _ _ (λ column. other-plain (part.Unique column) tt))
    (gives-or IsPlainPart _ _ foreign_part-plain
    (gives-bind IsPlainPart _ _ (λ _. gives-or IsPlainPart _ _ get_part-plain del_part-plain)))))

-- a CREATE TABLE
create-plain : Gives HasPlainParts (rules.create store_limits)
unfolding rules.create
create-plain =
    gives-bind HasPlainParts _ _ (λ _. gives-bind HasPlainParts _ _ (λ subject. gives-bind HasPlainParts _ _ (λ _.
    gives-bind HasPlainParts _ _ (λ found. gives-own (AllByRecursion IsPlainPart) HasPlainParts _ _
    (gives-bracketed (AllByRecursion IsPlainPart) _ (gives-listed IsPlainPart _ part-plain))
    (λ parts plain. gives-pure HasPlainParts (statement.CreateTable _) plain)))))

-- the columns among such parts are of such kinds
parts-columns : (parts : List Part) → AllByRecursion IsPlainPart parts → AllByRecursion (λ (column : ColumnDef). IsPlain column.kind) (filter_map column_of parts)
parts-columns [] plain = tt
parts-columns (part.Column column ∷ parts) plain = (plain.0, parts-columns parts plain.1)
parts-columns (_ ∷ parts) plain = parts-columns parts plain.1

-- so are the columns of their table
table-columns : (schema : Schema) (create : CreateTable) (columns : List ColumnDef) → AllByRecursion (λ (column : ColumnDef). IsPlain column.kind) columns
    → AllByRecursion IsPlainColumn (map (new_column schema create) columns)
unfolding new_column
table-columns schema create [] plain = tt
table-columns schema create (column ∷ columns) plain = (plain.0, table-columns schema create columns plain.1)

-- a CREATE TABLE that can be read adds a table of such columns
pub plain-with_table : (most : ℕ) (schema : Schema) (create : CreateTable) → IsWritten most (statement.CreateTable create)
    → ArePlainTables schema → ArePlainTables (with_table schema create)
unfolding with_table new_table
plain-with_table most schema create written plain =
    let parts : AllByRecursion IsPlainPart create.parts = create-plain (statement.CreateTable create) written.terminals []
    (written-own store_limits NESTING_LEVELS (statement.CreateTable create) written.terminals written.spells) in
    all-append IsPlainTable schema.tables (new_table schema create ∷ []) plain
    (table-columns schema create (columns_of create) (parts-columns create.parts parts), tt)
