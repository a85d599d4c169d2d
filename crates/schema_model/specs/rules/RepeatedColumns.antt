-- Rule 2: no two columns have one name.
use Rattle.std.specs.Prelude.{List, [], ◌∷◌, ◌++◌, if◌then◌else◌}
use Rattle.own_model.specs.declared.create.CreateTable.{CreateTable}
use Rattle.schema_model.specs.Columns.{NameBytes, column_names, is_named}

-- the names that repeat one before them
abbrev pub repeated_after : List NameBytes → List NameBytes → List NameBytes
repeated_after before [] = []
repeated_after before (name ∷ names) = (if is_named before name then name ∷ [] else []) ++ repeated_after (before ++ name ∷ []) names

-- the columns that have the name of one before them
unfoldable pub repeated_columns : CreateTable → List NameBytes
repeated_columns create = repeated_after [] (column_names create)
