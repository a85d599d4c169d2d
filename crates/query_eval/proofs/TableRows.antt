-- The rows of a table of a store.
use Rattle.std.proofs.Common.{arith, ◌≡◌, ℕ, zero, suc, ◌<◌, List, [], ◌∷◌, Option, Some, None, inl, inr, length, sym, subst}
use Rattle.std.specs.Prelude.{slice_get}
use Rattle.std.specs.List.{All, AllByRecursion as Each, filter}
use Rattle.std.specs.Option.{option_to_list}
use Rattle.std.proofs.lemmas.Bool.{cases_lt}
use Rattle.std.proofs.lemmas.List.{get_or_past}
use Rattle.std.proofs.lemmas.List.Elements.{All-get_or, All-nil, All-weaker, recursion_from_All}
use Rattle.std.proofs.lemmas.Option.{slice_get_cases}
use Rattle.own_base.specs.declared.number.TableNo.{TableNo}
use Rattle.own_base.specs.declared.row_name.RowName.{RowName}
use Rattle.own_base.specs.declared.value.Key.{Key}
use Rattle.own_base.specs.declared.value.Value.TheVariants.{Null}
use Rattle.own_model.specs.declared.bound.BoundCond.{BoundCond}
use Rattle.own_model.specs.declared.schema.Schema.{Schema}
use Rattle.own_model.specs.declared.schema.TableDef.{TableDef}
use Rattle.own_model.specs.Db.{AreRising, IsRising, Row}
use Rattle.own_model.specs.Stored.{row_named, rows_at}
use Rattle.query_model.specs.Footprints.{key_column, pinned_by, pinned_key}
use Rattle.query_model.specs.Truth.{cell, keeps}
use Rattle.query_model.specs.Stored.{AreStored, IsStored, IsStoredRow}
use Rattle.query_eval.specs.Tables.{AreTables}
use Rattle.query_model.proofs.KeptByKey.{kept_of_rising}

-- the keys of a table's rows rise
pub rising_at : (tables : List TableDef) (rows : List (List Row)) (n : ℕ) (table : TableDef) → AreRising tables rows → slice_get tables n ≡ Some table → IsRising table (rows_at rows n)
rising_at [] rows n table rising found = cc
rising_at (first ∷ tables) [] n table rising found = absurd rising
rising_at (first ∷ tables) (row ∷ rows) zero table rising found = let is : first ≡ table = cc in subst (λ t. IsRising t row) is rising.0
rising_at (first ∷ tables) (row ∷ rows) (suc n) table rising found = rising_at tables rows n table rising.1 found

-- a table's rows hold no sums
pub stored_at : (rows : List (List Row)) (n : ℕ) → All AreStored rows → AreStored (rows_at rows n)
stored_at rows n stored = elim (cases_lt n (length rows)) [
  | inl within ↦ All-get_or AreStored rows n [] within stored
  | inr past ↦ subst AreStored (sym (get_or_past rows n [] past)) (All-nil IsStoredRow)
]

-- nor does a row in a column
pub stored_cell : (column : ℕ) (row : Row) → IsStoredRow row → IsStored (cell row column)
stored_cell column row stored = elim (cases_lt column (length row)) [
  | inl within ↦ All-get_or IsStored row column Null within stored
  | inr past ↦ subst IsStored (sym (get_or_past row column Null past)) tt
]

-- nor do rows
pub stored_cells : (column : ℕ) (rows : List Row) → AreStored rows → Each (λ row. IsStored (cell row column)) rows
stored_cells column rows stored =
    recursion_from_All (λ row. IsStored (cell row column)) rows (All-weaker IsStoredRow (λ row. IsStored (cell row column)) (stored_cell column) rows stored)

-- the name of a row
abbrev named : TableNo → Key → RowName
named table key = record { table = table; key = key }

-- where a condition pins a key, the rows of a table that it keeps are the row of that key, where it is kept
pub kept_of_table : (schema : Schema) (rows : List (List Row)) (table : TableNo) (condition : Option BoundCond) (key : Key) → AreTables schema rows → table.0 < length schema.tables
    → pinned_key (key_column schema table) condition ≡ Some key
    → filter (keeps condition) (option_to_list (row_named schema rows (named table key))) ≡ filter (keeps condition) (rows_at rows table.0)
unfolding row_named
kept_of_table schema rows table None key tables there pins = cc
kept_of_table schema rows table (Some condition) key tables there pins = elim ((slice_get_cases schema.tables table.0).1) [
  | inl (definition, within, found, is) ↦
      let column : pinned_by definition.key.0 condition ≡ Some key = rw found at pins in
      rw found
      (sym (kept_of_rising definition condition key column (rows_at rows table.0) (rising_at schema.tables rows table.0 definition tables.rising found)
      (stored_cells definition.key.0 (rows_at rows table.0) (stored_at rows table.0 tables.stored))))
  | inr (past, none) ↦ absurd (omega arith)
]
