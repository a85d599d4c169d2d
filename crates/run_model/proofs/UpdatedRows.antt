-- The rows that an UPDATE and a DELETE leave may stand in their table.
use Rattle.std.proofs.Common.{◌≡◌, ℕ, ◌+◌, List, [], ◌∷◌, map, filter, Bool, true, false, ◌==◌, refl, sym, ◌∙◌}
use Rattle.std.specs.Prelude.{Option, Some, slice_get, unwrap_or, if◌then◌else◌}
use Rattle.std.specs.List.{AllByRecursion, enumerate_from}
use Rattle.std.proofs.lemmas.Bool.{eqb-true}
use Rattle.own_base.specs.declared.number.ColNo.{ColNo}
use Rattle.own_base.specs.declared.value.Value.{Value}
use Rattle.own_base.specs.declared.value.Value.TheVariants.{Null}
use Rattle.own_model.specs.declared.bound.BoundCond.{BoundCond}
use Rattle.own_model.specs.declared.bound.BoundExpr.{BoundExpr}
use Rattle.own_model.specs.declared.schema.Column.{Column}
use Rattle.own_model.specs.declared.schema.TableDef.{TableDef}
use Rattle.own_model.specs.Db.{Row}
use Rattle.query_model.specs.Expression.{value_of}
use Rattle.query_model.specs.Truth.{keeps}
use Rattle.state_model.specs.Rows.{AreOfKinds, IsRowOf, IsStorable}
use Rattle.run_model.specs.Update.{Sets, rows_left, set_value, updated, updated_rows}
use Rattle.run_model.proofs.Numbered.{IsNumbered, numbered-each}
use Rattle.run_model.proofs.PutRows.{IsGiven}
use Rattle.run_model.proofs.RisingKeys.{AreKeyless, cell-updated}

-- over each row of the table, what a set gives may stand in its column
abbrev pub IsSetOf : TableDef → ColNo × BoundExpr → Type 0
IsSetOf table set = (row : Row) → IsRowOf table row → (column : Column) → slice_get table.columns set.0.0 ≡ Some column
    → IsGiven column (unwrap_or (value_of set.1 row) Null)

abbrev pub AreSetsOf : TableDef → Sets → Type 0
AreSetsOf table sets = AllByRecursion (IsSetOf table) sets

module _ (table : TableDef) (row : Row) (is : IsRowOf table row) where
  -- by whether the first set is of the column
  set_step : (set : ColNo × BoundExpr) (sets : Sets) (numbered : ℕ × Value) (column : Column) → slice_get table.columns numbered.0 ≡ Some column
      → IsSetOf table set → IsGiven column (set_value sets row numbered) → (b : Bool) → (set.0.0 == numbered.0) ≡ b → IsGiven column (set_value (set ∷ sets) row numbered)
  set_step set sets numbered column at one later true same =
      let number : set.0.0 ≡ numbered.0 = eqb-true set.0.0 numbered.0 same in
      rw same (one row is column (rw number at))
  set_step set sets numbered column at one later false same = rw same later

  -- what stands in a column after an UPDATE may stand there
  set-given : (sets : Sets) (numbered : ℕ × Value) (column : Column) → slice_get table.columns numbered.0 ≡ Some column → AreSetsOf table sets
      → IsGiven column numbered.1 → IsGiven column (set_value sets row numbered)
  set-given [] numbered column at are given = given
  set-given (set ∷ sets) numbered column at are given = set_step set sets numbered column at are.0 (set-given sets numbered column at are.1 given) _ refl

  -- the values of columns from a number on
  values_updated : (sets : Sets) (number : ℕ) (columns : List Column) (values : Row) → AreSetsOf table sets
      → AllByRecursion (IsNumbered table.columns) (enumerate_from number columns) → AreOfKinds columns values → AllByRecursion IsStorable values
      → AreOfKinds columns (map (set_value sets row) (enumerate_from number values)) × AllByRecursion IsStorable (map (set_value sets row) (enumerate_from number values))
  values_updated sets number [] [] are at kinds storable = (tt, tt)
  values_updated sets number [] (value ∷ values) are at kinds storable = absurd kinds
  values_updated sets number (column ∷ columns) [] are at kinds storable = absurd kinds
  values_updated sets number (column ∷ columns) (value ∷ values) are at kinds storable =
      let first = set-given sets (number, value) column at.0 are (record { fits = kinds.0; storable = storable.0 }) in
      let rest = values_updated sets (number + 1) columns values are at.1 kinds.1 storable.1 in
      ((first.fits, rest.0), (first.storable, rest.1))

  -- a row after an UPDATE of it
  pub row-updated : (sets : Sets) → AreKeyless table sets → AreSetsOf table sets → IsRowOf table (updated sets row)
  unfolding updated
  row-updated sets keyless are =
      let values = values_updated sets 0 table.columns row are (numbered-each table.columns) is.kinds is.storable in
      record { kinds = values.0; storable = values.1; keyed = λ null. is.keyed (sym (cell-updated table sets keyless row) ∙ null) }

module _ (table : TableDef) where
  row_step : (sets : Sets) (cond : Option BoundCond) (row : Row) → AreKeyless table sets → AreSetsOf table sets → IsRowOf table row → (b : Bool) → keeps cond row ≡ b
      → IsRowOf table (if keeps cond row then updated sets row else row)
  row_step sets cond row keyless are is true kept = rw kept (row-updated table row is sets keyless are)
  row_step sets cond row keyless are is false kept = rw kept is

  -- the rows of a table after an UPDATE
  pub rows-updated : (sets : Sets) (cond : Option BoundCond) (rows : List Row) → AreKeyless table sets → AreSetsOf table sets → AllByRecursion (IsRowOf table) rows
      → AllByRecursion (IsRowOf table) (updated_rows sets cond rows)
  unfolding updated_rows
  rows-updated sets cond [] keyless are all = tt
  rows-updated sets cond (row ∷ rows) keyless are all = (row_step sets cond row keyless are all.0 _ refl, rows-updated sets cond rows keyless are all.1)

-- what holds of each row holds of each that is left
left_step : (P : Row → Type 0) (test : Row → Bool) (row : Row) (rows : List Row) → P row → AllByRecursion P (filter test rows) → (b : Bool) → test row ≡ b
    → AllByRecursion P (filter test (row ∷ rows))
left_step P test row rows one all true is = rw is (one, all)
left_step P test row rows one all false is = rw is all

all-filter : (P : Row → Type 0) (test : Row → Bool) (rows : List Row) → AllByRecursion P rows → AllByRecursion P (filter test rows)
all-filter P test [] all = tt
all-filter P test (row ∷ rows) all = left_step P test row rows all.0 (all-filter P test rows all.1) _ refl

-- so the rows after a DELETE
pub all-rows_left : (P : Row → Type 0) (cond : Option BoundCond) (rows : List Row) → AllByRecursion P rows → AllByRecursion P (rows_left cond rows)
unfolding rows_left
all-rows_left P cond rows all = all-filter P _ rows all
