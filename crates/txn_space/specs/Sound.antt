-- What a transaction may stand on.
use Rattle.std.specs.Prelude.{◌≡◌, ◌<◌, ◌≤◌, ◌^◌, ℕ, List, Some, length, slice_get}
use Rattle.own_base.specs.Key.{key_cmp}
use Rattle.own_model.specs.declared.schema.TableDef.{TableDef}
use Rattle.own_model.specs.Db.{AreRising, Row, key_of}
use Rattle.own_model.specs.Stored.{rows_at}
use Rattle.page_model.specs.Changed.{AreKeyed}
use Rattle.page_model.specs.Rising.{IsRising}
use Rattle.txn_space.specs.declared.entry.Entry.{Entry}
use Rattle.txn_space.specs.Entries.{entries_at, entry_key, entry_row}

-- rows of tables: a list for each table, by rising key, and not too many to count them with those of a transaction
pub record IsBase (tables : List TableDef) (rows : List (List Row)) : Type 0 where
  pub rising : AreRising tables rows
  pub few : (number : ℕ) → length (rows_at rows number) < 2 ^ 63

-- Entries of these tables: of each table they rise by key, and each row that they put has its key.
pub record IsSpaceOf (tables : List TableDef) (space : List (List Entry)) : Type 0 where
  pub within : length space ≤ length tables
  pub numbered : length space ≤ 2 ^ 32
  pub few : (number : ℕ) → length (entries_at space number) ≤ 2 ^ 62
  pub rising : (number : ℕ) → IsRising entry_key key_cmp (entries_at space number)
  pub keyed : (number : ℕ) (table : TableDef) → slice_get tables number ≡ Some table → AreKeyed (key_of table) entry_key entry_row (entries_at space number)
