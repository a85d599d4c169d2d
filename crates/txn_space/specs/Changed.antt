-- The rows of a base as a transaction changes them.
use Rattle.std.specs.Prelude.{ℕ, ◌+◌, List, [], ◌∷◌}
use Rattle.own_base.specs.Key.{key_cmp}
use Rattle.own_model.specs.declared.schema.TableDef.{TableDef}
use Rattle.own_model.specs.Db.{Db, Row, key_of}
use Rattle.page_model.specs.Changed.{with_changes}
use Rattle.txn_space.specs.declared.entry.Entry.{Entry}
use Rattle.txn_space.specs.Entries.{entries_at, entry_key, entry_row}

-- the rows of a table with entries: under the key of each stands the row that it puts, or none
abbrev pub rows_with : TableDef → List Entry → List Row → List Row
rows_with table entries rows = with_changes (key_of table) key_cmp entry_key entry_row entries rows

-- the rows of tables that are numbered from here on
unfoldable pub changed_from : ℕ → List TableDef → List (List Row) → List (List Entry) → List (List Row)
changed_from number (table ∷ tables) (rows ∷ rest) space = rows_with table (entries_at space number) rows ∷ changed_from (number + 1) tables rest space
changed_from number _ _ space = []

-- and of all tables
abbrev pub changed_rows : List TableDef → List (List Row) → List (List Entry) → List (List Row)
changed_rows tables rows space = changed_from 0 tables rows space

-- a database with these rows
abbrev pub changed_db : Db → List (List Entry) → Db
changed_db db space = record db { rows = changed_rows db.schema.tables db.rows space }
