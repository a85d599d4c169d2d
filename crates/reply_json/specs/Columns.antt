-- The names of columns.
use Rattle.std.specs.Prelude.{ℕ, List, [], ◌++◌, map, position, slice_get, Option, None, Some}
use Rattle.std.specs.Option.{option_map_or}
use Rattle.std.specs.Str.{bytes_eq}
use Rattle.own_model.specs.declared.select.Items.{Items}
use Rattle.own_model.specs.declared.select.Items.TheVariants.{Star, Listed}
use Rattle.own_model.specs.declared.select.Join.{Join}
use Rattle.own_model.specs.declared.select.Select.{Select}
use Rattle.query_model.specs.SelectFaults.{output_name}
use Rattle.reply_json.specs.declared.columns.TableNames.{TableNames}

-- those of the table that is listed there
abbrev pub listed_columns : List TableNames → Option ℕ → List (List ℕ)
listed_columns tables None = []
listed_columns tables (Some place) = option_map_or (λ table. table.columns) (slice_get tables place) []

-- those of the first table of this name
abbrev pub columns_of : List TableNames → List ℕ → List (List ℕ)
columns_of tables name = listed_columns tables (position (λ table. bytes_eq table.name name) tables)

-- those of the table that is joined
abbrev pub join_columns : List TableNames → Option Join → List (List ℕ)
join_columns tables None = []
join_columns tables (Some join) = columns_of tables join.table

-- those that these items show of these tables
abbrev pub shown_columns : List TableNames → Select → Items → List (List ℕ)
shown_columns tables select Star = columns_of tables select.from ++ join_columns tables select.join
shown_columns tables select (Listed items) = map output_name items

-- those of a select's reply: what it lists, by its AS name or its column's; or those of its tables
abbrev pub select_columns : List TableNames → Select → List (List ℕ)
select_columns tables select = shown_columns tables select select.items
