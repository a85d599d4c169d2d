-- Rule 6: a reference names the primary key of its table.
use Rattle.std.specs.Prelude.{List, Bool, true, false, not, filter, map, slice_get, bytes_eq}
use Rattle.std.specs.Option.{option_map_or}
use Rattle.own_model.specs.declared.create.CreateTable.{CreateTable}
use Rattle.own_model.specs.declared.schema.Schema.{Schema}
use Rattle.own_model.specs.declared.schema.TableDef.{TableDef}
use Rattle.schema_model.specs.Columns.{NameBytes}
use Rattle.schema_model.specs.NewTable.{target_of}
use Rattle.schema_model.specs.References.{Reference, references_of}

-- whether a table's primary key has this name
abbrev pub is_key_of : NameBytes → TableDef → Bool
is_key_of name table = option_map_or (λ column. bytes_eq column.name name) (slice_get table.columns table.key.0) false

-- whether a reference names the primary key of the table that it names, where that is there
abbrev pub names_the_key : Schema → CreateTable → Reference → Bool
names_the_key schema create reference = option_map_or (is_key_of reference.refers.column) (target_of schema create reference.refers) true

-- the columns that references name and that are no primary key
unfoldable pub past_the_key : Schema → CreateTable → List NameBytes
past_the_key schema create =
    map (λ reference. reference.refers.column) (filter (λ reference. not (names_the_key schema create reference)) (references_of create))
