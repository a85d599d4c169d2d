-- Which columns are indexed.
use Rattle.std.specs.Prelude.{ℕ, Bool, false, ◌||◌, is_some, slice_get}
use Rattle.std.specs.Option.{option_map_or}
use Rattle.own_model.specs.declared.schema.Column.{Column}
use Rattle.own_model.specs.declared.schema.Schema.{Schema}

-- one that is UNIQUE, or refers to a table
abbrev pub is_indexed : Column → Bool
is_indexed column = column.unique || is_some column.refers

-- the column of a number, of the table of a number
abbrev pub is_indexed_at : Schema → ℕ → ℕ → Bool
is_indexed_at schema table column =
    option_map_or (λ definition. option_map_or is_indexed (slice_get definition.columns column) false) (slice_get schema.tables table) false
