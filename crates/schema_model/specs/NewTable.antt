-- The table that a CREATE TABLE adds.
use Rattle.std.specs.Prelude.{List, [], ◌∷◌, ◌++◌, Bool, ◌||◌, Option, find, map, option_map, position, unwrap_or, bytes_eq}
use Rattle.std.specs.List.{list_any}
use Rattle.own_model.specs.declared.create.ColumnDef.{ColumnDef}
use Rattle.own_model.specs.declared.create.CreateTable.{CreateTable}
use Rattle.own_model.specs.declared.create.RefDef.{RefDef}
use Rattle.own_model.specs.declared.schema.Column.{Column}
use Rattle.own_model.specs.declared.schema.RefKind.{RefKind}
use Rattle.own_model.specs.declared.schema.Schema.{Schema}
use Rattle.own_model.specs.declared.schema.TableDef.{TableDef}
use Rattle.own_base.specs.declared.number.TableNo.{TableNo}
use Rattle.schema_model.specs.Columns.{columns_of, is_not_null, is_unique, key_name, makes_unique}
use Rattle.schema_model.specs.References.{Reference, reference_on}
use Rattle.schema_model.specs.Tables.{number_of}

-- what a reference is to a column: its kind, and the number of the table that it names
abbrev pub link_of : Schema → Reference → RefKind × TableNo
link_of schema reference = (reference.refers.kind, record { 0 = number_of schema reference.refers.table })

-- a column: UNIQUE stands after its kind or in a part of its own, and so does its reference
unfoldable pub new_column : Schema → CreateTable → ColumnDef → Column
new_column schema create column = record {
  name = column.name;
  kind = column.kind;
  not_null = list_any is_not_null column.attrs;
  unique = list_any is_unique column.attrs || list_any (makes_unique column.name) create.parts;
  refers = option_map (link_of schema) (reference_on create column.name);
}

-- the table
unfoldable pub new_table : Schema → CreateTable → TableDef
new_table schema create = record {
  name = create.name;
  subject = create.subject;
  key = record { 0 = unwrap_or (position (λ column. bytes_eq column.name (key_name create)) (columns_of create)) 0 };
  columns = map (new_column schema create) (columns_of create);
}

-- the tables of the schema, and the new one
abbrev pub tables_with : Schema → CreateTable → List TableDef
tables_with schema create = schema.tables ++ new_table schema create ∷ []

-- the table that a reference names: one of the schema, or the new one
abbrev pub target_of : Schema → CreateTable → RefDef → Option TableDef
target_of schema create refers = find (λ table. bytes_eq table.name refers.table) (tables_with schema create)

-- whether it names the new one
abbrev pub names_itself : CreateTable → RefDef → Bool
names_itself create refers = bytes_eq refers.table create.name
