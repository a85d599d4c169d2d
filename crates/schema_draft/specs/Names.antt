-- What the names of a schema's tables and views are.
use Rattle.std.specs.Prelude.{◌≡◌, List, Bool, Option, None, Some, find, is_some, option_map, position, bytes_eq}
use Rattle.std.specs.Option.{option_and_then, option_or}
use Rattle.own_base.specs.declared.number.TableNo.{TableNo}
use Rattle.own_model.specs.declared.schema.Schema.{Schema}
use Rattle.own_model.specs.declared.schema.TableDef.{TableDef}
use Rattle.own_model.specs.declared.schema.ViewDef.{ViewDef}
use Rattle.schema_draft.specs.declared.names.Named.{Named}
use Rattle.schema_draft.specs.declared.names.Named.TheVariants.{Table, View}
use Rattle.schema_model.specs.Columns.{NameBytes}
use Rattle.schema_model.specs.Tables.{is_taken}

-- names, each with what it is
abbrev pub NameList : Type 0
NameList = List (NameBytes × Named)

-- what a name is, among them; the first, where it stands among them more often
abbrev pub named_at : NameList → NameBytes → Option Named
named_at names name = option_map (λ entry. entry.1) (find (λ entry. bytes_eq entry.0 name) names)

-- the table, where it is one
abbrev pub as_table : Named → Option TableNo
as_table (Table number) = Some number
as_table (View number) = None

abbrev pub table_at : NameList → NameBytes → Option TableNo
table_at names name = option_and_then as_table (named_at names name)

-- whether a name is among them
abbrev pub has_name : NameList → NameBytes → Bool
has_name names name = is_some (named_at names name)

-- the table of this name, among tables by number, and the view
abbrev pub table_named : List TableDef → NameBytes → Option Named
table_named tables name = option_map (λ number. Table (record { 0 = number })) (position (λ table. bytes_eq table.name name) tables)

abbrev pub view_named : List ViewDef → NameBytes → Option Named
view_named views name = option_map (λ number. View (record { 0 = number })) (position (λ view. bytes_eq view.name name) views)

-- Every name is what it is in a schema: a table, or else a view. So each table is found by its name, and a name is there
-- exactly where it is taken.
pub record AreNamesOf (names : NameList) (schema : Schema) : Type 0 where
  pub named : (name : NameBytes) → named_at names name ≡ option_or (table_named schema.tables name) (view_named schema.views name)
  pub table : (name : NameBytes) → option_map (λ number. number.0) (table_at names name) ≡ position (λ table. bytes_eq table.name name) schema.tables
  pub taken : (name : NameBytes) → has_name names name ≡ is_taken schema name

-- the new names are the old ones, and others by what they are
pub record AddsNames (old new : NameList) (others : NameBytes → Option Named) : Type 0 where
  pub named : (name : NameBytes) → named_at new name ≡ option_or (named_at old name) (others name)
