-- The rows of some keys of a table.
use Rattle.std.specs.Prelude.{List, flat_map}
use Rattle.std.specs.Option.{option_to_list}
use Rattle.own_base.specs.declared.number.TableNo.{TableNo}
use Rattle.own_base.specs.declared.value.Key.{Key}
use Rattle.own_model.specs.declared.schema.Schema.{Schema}
use Rattle.own_model.specs.Db.{Row}
use Rattle.own_model.specs.Stored.{row_named}

-- of each key the row, where there is one
abbrev pub rows_named : Schema → List (List Row) → TableNo → List Key → List Row
rows_named schema rows table keys = flat_map (λ key. option_to_list (row_named schema rows (record { table = table; key = key }))) keys
