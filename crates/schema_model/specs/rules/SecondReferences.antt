-- Rule 4: a column has one reference at most.
use Rattle.std.specs.Prelude.{List, [], map}
use Rattle.own_model.specs.declared.create.CreateTable.{CreateTable}
use Rattle.schema_model.specs.Columns.{NameBytes}
use Rattle.schema_model.specs.References.{references_of}
use Rattle.schema_model.specs.rules.RepeatedColumns.{repeated_after}

-- the columns of references whose column has one before it
unfoldable pub second_references : CreateTable → List NameBytes
second_references create = repeated_after [] (map (λ reference. reference.column) (references_of create))
