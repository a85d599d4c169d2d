-- Rule 3: a constraint and an ON rule stand on a column of the table.
use Rattle.std.specs.Prelude.{List, not, Option, None, Some, filter, filter_map}
use Rattle.own_model.specs.declared.create.CreateTable.{CreateTable}
use Rattle.own_model.specs.declared.create.Part.{Part}
use Rattle.own_model.specs.declared.create.Part.TheVariants as part
use Rattle.schema_model.specs.Columns.{NameBytes, column_names, is_named}

-- the column that a constraint or a rule stands on
abbrev pub stands_on : Part → Option NameBytes
stands_on (part.Column column) = None
stands_on (part.Key column) = Some column
stands_on (part.Unique column) = Some column
stands_on (part.Foreign column refers) = Some column
stands_on (part.Get column hidden) = Some column
stands_on (part.Del column blanked) = Some column
stands_on (part.DelRow column) = Some column

-- those that the table doesn't have
unfoldable pub missing_columns : CreateTable → List NameBytes
missing_columns create = filter (λ name. not (is_named (column_names create) name)) (filter_map stands_on create.parts)
