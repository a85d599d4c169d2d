-- Rows that are put where none stands.
use Rattle.std.specs.Prelude.{◌≡◌, ℕ, ◌+◌, List, [], ◌∷◌, ◌++◌, Option, None, Some, map}
use Rattle.std.specs.declared.cmp.Ordering.TheVariants.{Less}
use Rattle.own_base.specs.Key.{key_cmp}
use Rattle.own_base.specs.declared.change.Change.{Change}
use Rattle.own_base.specs.declared.value.Key.{Key}
use Rattle.own_model.specs.declared.schema.TableDef.{TableDef}
use Rattle.own_model.specs.Db.{AreRising, Row, key_of}
use Rattle.subject_model.specs.Named.{name_of}
use Rattle.disk_model.specs.Lawful.{AreKeyedRows, IsKeyedRow}

-- the change that puts a row of the table of a number
abbrev pub row_change : ℕ → TableDef → Row → Change
row_change number table row = record { name = name_of number table row; before = None; after = Some row }

-- those of the rows of tables that are numbered from here on
unfoldable pub changes_from : ℕ → List TableDef → List (List Row) → List Change
changes_from number (table ∷ tables) (rows ∷ rest) = map (row_change number table) rows ++ changes_from (number + 1) tables rest
changes_from number _ _ = []

-- a key stands behind the last one, where there is one
abbrev pub IsBehind : Option Key → Key → Type 0
IsBehind None key = Unit {0}
IsBehind (Some last) key = key_cmp last key ≡ Less

-- what may be put behind the row of a key
abbrev pub IsNextRow : TableDef → Option Key → Row → Type 0
IsNextRow table last row = IsKeyedRow table row × IsBehind last (key_of table row)

-- each row may be put behind the one before it
abbrev pub AreNextRows : TableDef → Option Key → List Row → Type 0
AreNextRows table last [] = Unit {0}
AreNextRows table last (row ∷ rows) = IsNextRow table last row × AreNextRows table (Some (key_of table row)) rows

-- and so in each table, of which each has its list
abbrev pub AreTablesOfRows : List TableDef → List (List Row) → Type 0
AreTablesOfRows [] [] = Unit {0}
AreTablesOfRows [] (rows ∷ rest) = ⊥
AreTablesOfRows (table ∷ tables) [] = ⊥
AreTablesOfRows (table ∷ tables) (rows ∷ rest) = AreNextRows table None rows × AreTablesOfRows tables rest

-- the change of a row that may be put behind a key; or it may not
abbrev pub IsPutBehind : ℕ → TableDef → Option Key → Row → Option Change → Type 0
IsPutBehind number table last row (Some change) = (change ≡ row_change number table row) × IsNextRow table last row
IsPutBehind number table last row None = ¬ IsNextRow table last row

-- the changes of all rows, which may stand in their tables and rise; or they may not, or don't
abbrev pub ArePutRows : List TableDef → List (List Row) → Option (List Change) → Type 0
ArePutRows tables rows (Some changes) = (changes ≡ changes_from 0 tables rows) × AreKeyedRows tables rows × AreRising tables rows
ArePutRows tables rows None = ¬ (AreKeyedRows tables rows × AreRising tables rows)
