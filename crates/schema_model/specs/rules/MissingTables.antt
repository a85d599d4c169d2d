-- Rule 5: a reference names a table of the schema, or the new one.
use Rattle.std.specs.Prelude.{List, filter, is_none, map}
use Rattle.own_model.specs.declared.create.CreateTable.{CreateTable}
use Rattle.own_model.specs.declared.schema.Schema.{Schema}
use Rattle.schema_model.specs.Columns.{NameBytes}
use Rattle.schema_model.specs.NewTable.{target_of}
use Rattle.schema_model.specs.References.{references_of}

-- the tables that references name and that aren't there
unfoldable pub missing_tables : Schema → CreateTable → List NameBytes
missing_tables schema create =
    map (λ reference. reference.refers.table) (filter (λ reference. is_none (target_of schema create reference.refers)) (references_of create))
