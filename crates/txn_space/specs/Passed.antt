-- Looking for a place among rows with entries, entry by entry.
use Rattle.std.specs.Prelude.{◌≡◌, ◌<◌, ◌≤◌, ◌+◌, ℕ, List, ◌++◌, drop, length}
use Rattle.std.specs.Option.{option_to_list}
use Rattle.own_base.specs.Key.{key_cmp}
use Rattle.own_model.specs.declared.schema.TableDef.{TableDef}
use Rattle.own_model.specs.Db.{Row, key_of}
use Rattle.page_model.specs.Changed.{above_key, below_key}
use Rattle.txn_space.specs.declared.entry.Entry.{Entry}
use Rattle.txn_space.specs.declared.walk.Passed.{Passed}
use Rattle.txn_space.specs.declared.walk.Passed.TheVariants.{Within, Behind}
use Rattle.txn_space.specs.Entries.{entry_key, entry_row}

-- of some rows those below the key of an entry, and the row that it puts
abbrev pub upto_entry : TableDef → Entry → List Row → List Row
upto_entry table entry rows = below_key (key_of table) key_cmp (entry_key entry) rows ++ option_to_list (entry_row entry)

-- some of the rows that begin at a place
pub record IsPartFrom (rows : List Row) (place : ℕ) (run : List Row) : Type 0 where
  pub rest : List Row
  pub follow : drop place rows ≡ run ++ rest
  pub some : 0 < length run

-- so many places behind rows, and the rows behind an entry are those of the base from a place on
pub record IsBehind (table : TableDef) (entry : Entry) (rows : List Row) (from place next left : ℕ) : Type 0 where
  pub within : next ≤ length rows
  pub sums : place ≡ length (upto_entry table entry (drop from rows)) + left
  pub above : above_key (key_of table) key_cmp (entry_key entry) (drop from rows) ≡ drop next rows

abbrev pub IsPassed : TableDef → Entry → List Row → ℕ → ℕ → Passed → Type 0
IsPassed table entry rows from place (Within run) = IsPartFrom (upto_entry table entry (drop from rows)) place run.now
IsPassed table entry rows from place (Behind next left) = IsBehind table entry rows from place next left
