-- The items that a session holds, as its locks keep them: of each row, and of each whole table, one at most.
use Rattle.std.specs.Prelude.{ℕ, ◌+◌, List, [], ◌∷◌, ◌++◌, Bool, false, map, slice_get, slice_index_or}
use Rattle.std.specs.Option.{option_map_or}
use Rattle.own_model.specs.declared.footprint.FootItem.{FootItem}
use Rattle.row_locks.specs.declared.session_locks.SessionLocks.{SessionLocks}
use Rattle.row_locks.specs.declared.table_locks.TableLocks.{TableLocks}
use Rattle.row_locks.specs.Locks.{has_place, meet, table_items}

-- the items of the tables that are numbered from here on
unfoldable pub items_from : ℕ → List TableLocks → List FootItem
items_from table [] = []
items_from table (locks ∷ rest) = table_items table locks.whole locks.rows.entries ++ items_from (table + 1) rest

-- and of all of a session's tables
abbrev pub items_of : SessionLocks → List FootItem
items_of session = items_from 0 session.tables.items

-- of each session, by its number
abbrev pub all_items : List SessionLocks → List (List FootItem)
all_items sessions = map items_of sessions

abbrev pub items_by : List (List FootItem) → ℕ → List FootItem
items_by sessions number = slice_index_or sessions number []

-- whether a session's locks of an item's table stand in its way
abbrev pub tables_meet : List TableLocks → FootItem → Bool
tables_meet tables item = option_map_or (λ locks. meet locks.whole locks.rows.entries item.key item.write) (slice_get tables item.table.0) false

-- whether an item has a place in them, however it is held
abbrev pub has_place_in : List TableLocks → FootItem → Bool
has_place_in tables item = option_map_or (λ locks. has_place locks.rows.entries item.key) (slice_get tables item.table.0) false
