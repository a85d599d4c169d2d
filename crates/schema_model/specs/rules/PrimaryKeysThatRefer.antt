-- Rule 8: a primary key is no reference.
use Rattle.std.specs.Prelude.{List, filter, map, bytes_eq}
use Rattle.own_model.specs.declared.create.CreateTable.{CreateTable}
use Rattle.schema_model.specs.Columns.{NameBytes, key_name}
use Rattle.schema_model.specs.References.{references_of}

-- the primary key, where it has a reference
unfoldable pub primary_keys_that_refer : CreateTable → List NameBytes
primary_keys_that_refer create =
    filter (λ column. bytes_eq column (key_name create)) (map (λ reference. reference.column) (references_of create))
