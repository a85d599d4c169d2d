-- The columns that a column list names.
use Rattle.std.specs.Prelude.{ℕ, List, Bool, false, not, ◌==◌, Option, map, bytes_eq}
use Rattle.std.specs.List.{list_any}
use Rattle.std.specs.Option.{option_map, option_map_or}
use Rattle.own_model.specs.declared.schema.Column.{Column as Definition}
use Rattle.query_model.specs.Scope.{NameBytes}
use Rattle.plan_bind.specs.NumberedColumns.{column_of}
use Rattle.plan_bind.specs.declared.numbered_column.NumberedColumn.{NumberedColumn}

-- the columns that names mean
abbrev pub columns_meant : List (Option NumberedColumn) → List (Option (ℕ × Definition))
columns_meant columns = map (option_map column_of) columns

-- whether a name means the column of this number
abbrev pub is_of_number : ℕ → Option (ℕ × Definition) → Bool
is_of_number number meant = option_map_or (λ column. column.0 == number) meant false

-- whether none of these names is that of a column
abbrev pub is_unnamed : List NameBytes → ℕ × Definition → Bool
is_unnamed names column = not (list_any (λ name. bytes_eq name column.1.name) names)
