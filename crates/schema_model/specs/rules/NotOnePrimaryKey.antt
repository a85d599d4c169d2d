-- Rule 1: a table has PRIMARY KEY once.
use Rattle.std.specs.Prelude.{List, [], ◌∷◌, length, ◌==◌, if◌then◌else◌}
use Rattle.own_model.specs.declared.create.CreateTable.{CreateTable}
use Rattle.schema_model.specs.Columns.{NameBytes, key_columns}

-- the table, where it isn't given exactly once
unfoldable pub not_one_primary_key : CreateTable → List NameBytes
not_one_primary_key create = if length (key_columns create) == 1 then [] else create.name ∷ []
