-- Which rows hold a value in a column.
use Rattle.std.specs.Prelude.{ℕ, List, [], Bool, false, filter, map, slice_get}
use Rattle.std.specs.Option.{option_map_or}
use Rattle.own_base.specs.Key.{key_cmp}
use Rattle.own_base.specs.declared.value.Key.{Key}
use Rattle.own_model.specs.declared.schema.TableDef.{TableDef}
use Rattle.own_model.specs.Db.{Db, Row, key_of}
use Rattle.own_model.specs.Stored.{is_equal, rows_at}
use Rattle.query_model.specs.Footprints.{literal_key}
use Rattle.query_model.specs.Truth.{cell}

-- whether a row has this value in a column; NULL is no value that a row holds
unfoldable pub holds : ℕ → Key → Row → Bool
holds column value row = option_map_or (λ key. is_equal (key_cmp key value)) (literal_key (cell row column)) false

-- the keys of the rows of a table that hold it, in the order of the rows
abbrev pub holders : TableDef → List Row → ℕ → Key → List Key
holders table rows column value = map (key_of table) (filter (holds column value) rows)

-- and of the table of a number of a database, so by rising key
unfoldable pub holders_at : Db → ℕ → ℕ → Key → List Key
holders_at db table column value =
    option_map_or (λ definition. holders definition (rows_at db.rows table) column value) (slice_get db.schema.tables table) []
