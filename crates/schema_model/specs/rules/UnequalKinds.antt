-- Rule 7: a reference is of the kind of the key that it names.
use Rattle.std.specs.Prelude.{List, Bool, true, not, filter, find, map, slice_get, bytes_eq}
use Rattle.std.specs.Option.{option_map_or}
use Rattle.own_model.specs.declared.create.ColumnDef.{ColumnDef}
use Rattle.own_model.specs.declared.create.CreateTable.{CreateTable}
use Rattle.own_model.specs.declared.schema.Schema.{Schema}
use Rattle.own_model.specs.declared.schema.TableDef.{TableDef}
use Rattle.schema_model.specs.Columns.{NameBytes, columns_of}
use Rattle.schema_model.specs.Kinds.{is_same_kind}
use Rattle.schema_model.specs.NewTable.{target_of}
use Rattle.schema_model.specs.References.{Reference, references_of}

-- whether a column is of the kind of a table's key
abbrev pub is_of_key_kind : TableDef → ColumnDef → Bool
is_of_key_kind table column = option_map_or (λ key. is_same_kind key.kind column.kind) (slice_get table.columns table.key.0) true

-- whether a reference's column is of the kind of the key that it names, where both are there
abbrev pub is_of_its_kind : Schema → CreateTable → Reference → Bool
is_of_its_kind schema create reference = option_map_or
    (λ table. option_map_or (is_of_key_kind table) (find (λ column. bytes_eq column.name reference.column) (columns_of create)) true)
    (target_of schema create reference.refers) true

-- the columns of references of another kind
unfoldable pub unequal_kinds : Schema → CreateTable → List NameBytes
unequal_kinds schema create =
    map (λ reference. reference.column) (filter (λ reference. not (is_of_its_kind schema create reference)) (references_of create))
