-- The changed rows of a transaction: for each table, by its number, its entries by rising key.
use Rattle.std.specs.Prelude.{ℕ, List, [], Option, map, slice_index_or}
use Rattle.own_base.specs.declared.change.Change.{Change}
use Rattle.own_base.specs.declared.value.Key.{Key}
use Rattle.own_model.specs.Db.{Row}
use Rattle.page_model.specs.Paged.{Paged, items}
use Rattle.txn_space.specs.declared.entry.ByKey.{ByKey}
use Rattle.txn_space.specs.declared.entry.Entry.{Entry}

-- the key, and the row that stands there, None where it is taken away
abbrev pub entry_key : Entry → Key
entry_key entry = entry.key

abbrev pub entry_row : Entry → Option Row
entry_row entry = entry.row

-- the entries that lie in pages, by table
abbrev pub seen : List (Paged ByKey Entry) → List (List Entry)
seen tables = map items tables

-- those of the table that has this number
abbrev pub entries_at : List (List Entry) → ℕ → List Entry
entries_at space number = slice_index_or space number []

-- the entry that a change puts
abbrev pub entry_of : Change → Entry
entry_of change = record { key = change.name.key; row = change.after }
