-- What the index of a column represents.
use Rattle.std.specs.Prelude.{◌≡◌, ℕ, List, Bool, false, Option}
use Rattle.std.specs.Option.{option_map_or}
use Rattle.own_base.specs.Key.{key_cmp}
use Rattle.own_base.specs.declared.value.Key.{Key}
use Rattle.own_model.specs.Db.{Db, Row}
use Rattle.owner_model.specs.Joins.{row_of}
use Rattle.link_model.specs.Holds.{holds}
use Rattle.ordered_pairs.specs.Has.{has}

-- the rows of a table of a database, each under its key
abbrev pub rows_under : Db → ℕ → Key → Option Row
rows_under db table key = row_of db (record { table = record { 0 = table }; key = key })

-- whether a row that is there or not holds a value
abbrev pub held_by : ℕ → Key → Option Row → Bool
held_by column value row = option_map_or (holds column value) row false

-- an entry is among the pairs exactly where the row under its key holds its value
abbrev pub IsIndexOf : ℕ → (Key → Option Row) → List (Key × Key) → Type 0
IsIndexOf column rows pairs = (value key : Key) → has key_cmp key_cmp pairs value key ≡ held_by column value (rows key)
