-- What FROM names, before ON is bound.
use Rattle.std.specs.Prelude.{List, [], ◌++◌, Option, None, Some, length}
use Rattle.std.specs.Option.{option_map_or}
use Rattle.own_model.specs.declared.bound.Source1.{Source1}
use Rattle.own_model.specs.declared.bound.Source1.TheVariants as source
use Rattle.own_model.specs.declared.schema.Kind.{Kind}
use Rattle.own_model.specs.declared.schema.Schema.{Schema}
use Rattle.own_model.specs.declared.select.Join.{Join}
use Rattle.own_model.specs.declared.select.Select.{Select}
use Rattle.query_model.specs.Scope.{NameBytes, Scope, scope_from, table_columns_named, table_named, view_columns, view_named}
use Rattle.query_model.specs.SelectMeaning.{table_number}
use Rattle.bind_select.specs.declared.from.Rows.{Rows}
use Rattle.bind_select.specs.declared.from.Rows.TheVariants.{One, Two}

-- the columns of two tables
abbrev pub pair_scope : Schema → NameBytes → NameBytes → Scope
pair_scope schema left right = scope_from 0 left (table_columns_named schema left)
    ++ scope_from (length (table_columns_named schema left)) right (table_columns_named schema right)

-- two tables, with how many columns the left one has
abbrev pub pair_rows : Schema → NameBytes → NameBytes → Rows
pair_rows schema left right = Two (table_number schema left) (table_number schema right) (length (table_columns_named schema left))

-- a view by its name, and its columns
abbrev pub viewed_source : Schema → NameBytes → Source1
viewed_source schema name = source.View (record { 0 = option_map_or (λ found. found.0) (view_named schema name) 0 })

abbrev pub viewed_columns : Schema → NameBytes → List (NameBytes × Kind)
viewed_columns schema name = option_map_or (λ found. view_columns found.1) (view_named schema name) []

-- a table by its name, or a view
abbrev pub single_source : Schema → NameBytes → Source1
single_source schema name = option_map_or (λ found. source.Table (record { 0 = found.0 })) (table_named schema name) (viewed_source schema name)

-- where the rows of a select come from
abbrev pub rows_of : Schema → Select → Rows
rows_of schema select = by select.join
  where
    by : Option Join → Rows
    by None = One (single_source schema select.from)
    by (Some join) = pair_rows schema select.from join.table
