-- The changes of a transaction, read off its entries.
use Rattle.std.specs.Prelude.{ℕ, ◌+◌, List, [], ◌∷◌, ◌++◌, Option, filter_map}
use Rattle.own_base.specs.declared.change.Change.{Change}
use Rattle.own_base.specs.declared.number.TableNo.{TableNo}
use Rattle.own_base.specs.declared.row_name.RowName.{RowName}
use Rattle.own_model.specs.declared.schema.Schema.{Schema}
use Rattle.own_model.specs.Db.{Row}
use Rattle.own_model.specs.Stored.{row_named}
use Rattle.state_model.specs.Net.{change_unless_same}
use Rattle.txn_space.specs.declared.entry.Entry.{Entry}
use Rattle.txn_space.specs.Entries.{entry_key, entry_row}

-- the name of the row of an entry
abbrev pub entry_name : TableNo → Entry → RowName
entry_name table entry = record { table = table; key = entry_key entry }

-- what becomes of that row, unless it ends as it began
abbrev pub entry_change : Schema → List (List Row) → TableNo → Entry → Option Change
entry_change schema rows table entry = change_unless_same (entry_name table entry) (row_named schema rows (entry_name table entry)) (entry_row entry)

-- the changes of tables that are numbered from here on
unfoldable pub entry_changes : Schema → List (List Row) → ℕ → List (List Entry) → List Change
entry_changes schema rows number [] = []
entry_changes schema rows number (entries ∷ space) =
    filter_map (entry_change schema rows (record { 0 = number })) entries ++ entry_changes schema rows (number + 1) space
