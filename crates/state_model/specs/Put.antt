-- A database into which changes of its rows are put.
use Rattle.std.specs.Prelude.{ℕ, ◌+◌, List, [], ◌∷◌, Bool, ◌==◌, Option, filter}
use Rattle.own_base.specs.Key.{key_cmp}
use Rattle.own_base.specs.declared.change.Change.{Change}
use Rattle.own_base.specs.declared.value.Key.{Key}
use Rattle.own_model.specs.declared.schema.TableDef.{TableDef}
use Rattle.own_model.specs.Db.{Db, Row, key_of}
use Rattle.page_model.specs.Changed.{with_changes}

-- the key of a change, and the row that it puts, None where it takes away the row of its key
abbrev pub changed_key : Change → Key
changed_key change = change.name.key

abbrev pub row_after : Change → Option Row
row_after change = change.after

abbrev pub is_of_table : ℕ → Change → Bool
is_of_table number change = change.name.table.0 == number

-- the rows of a table with those of some changes that are of its number, one after another
abbrev pub rows_put : ℕ → TableDef → List Change → List Row → List Row
rows_put number table changes rows = with_changes (key_of table) key_cmp changed_key row_after (filter (is_of_table number) changes) rows

-- the rows of tables that are numbered from here on
unfoldable pub put_from : ℕ → List TableDef → List Change → List (List Row) → List (List Row)
put_from number (table ∷ tables) changes (rows ∷ rest) = rows_put number table changes rows ∷ put_from (number + 1) tables changes rest
put_from number _ changes _ = []

-- and of all tables
abbrev pub put_rows : List TableDef → List Change → List (List Row) → List (List Row)
put_rows tables changes rows = put_from 0 tables changes rows

-- the database with these rows
abbrev pub put : Db → List Change → Db
put db changes = record db { rows = put_rows db.schema.tables changes db.rows }
