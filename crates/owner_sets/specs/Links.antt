-- Which rows an edge joins, by their places.
use Rattle.std.specs.Prelude.{ℕ, List, Option, ◌==◌, if◌then◌else◌, flat_map, length, option_map, position, slice_get}
use Rattle.std.specs.List.{range_with_len}
use Rattle.std.specs.Option.{option_and_then, option_to_list}
use Rattle.own_base.specs.declared.value.Key.{Key}
use Rattle.own_base.specs.declared.value.Value.{Value}
use Rattle.own_model.specs.declared.schema.Edge.{Edge}
use Rattle.own_model.specs.declared.schema.Schema.{Schema}
use Rattle.own_model.specs.Db.{Row}
use Rattle.own_model.specs.Stored.{has_key, rows_at}
use Rattle.query_model.specs.Footprints.{literal_key}
use Rattle.schema_model.specs.OwnerSchema.{named_table}
use Rattle.owner_sets.specs.declared.link.Link.{Link}

-- the place of the row of a table that has this key
unfoldable pub place_of : Schema → List (List Row) → ℕ → Key → Option ℕ
place_of schema rows table key = option_and_then (λ definition. position (has_key definition key) (rows_at rows table)) (slice_get schema.tables table)

-- the place of the row of a table that a value names
abbrev pub place_named : Schema → List (List Row) → ℕ → Option Value → Option ℕ
place_named schema rows table value = option_and_then (place_of schema rows table) (option_and_then literal_key value)

-- a row of the table that holds the edge's column, and the row that it names, as a lower row and an upper one
abbrev pub link : Edge → ℕ → ℕ → Link
link edge holder named = if edge.holder.0 == edge.lower.0 then record { lower = holder; upper = named } else record { lower = named; upper = holder }

-- what an edge joins to the row at a place of the table that holds its column
unfoldable pub link_at : Schema → List (List Row) → Edge → ℕ → Option Link
link_at schema rows edge place =
    option_map (link edge place) (place_named schema rows (named_table edge).0 (option_and_then (λ row. slice_get row edge.column.0) (slice_get (rows_at rows edge.holder.0) place)))

-- all that it joins
unfoldable pub links : Schema → List (List Row) → Edge → List Link
links schema rows edge = flat_map (λ place. option_to_list (link_at schema rows edge place)) (range_with_len 0 (length (rows_at rows edge.holder.0)))
