-- What an UPDATE sets a column to may stand there, where the UPDATE can be read and binding lets it through.
use Rattle.std.proofs.Common.{◌≡◌, ℕ, zero, suc, ℤ, List, [], ◌∷◌, ◌++◌, Bool, true, false, refl, arith}
use Rattle.std.specs.Prelude.{Option, Some, None, slice_get, unwrap_or, ◌^◌, ◌&&◌, ◌+ℤ◌, pos, neg_ℤ, int_le, int_lt, if◌then◌else◌}
use Rattle.std.specs.List.{AllByRecursion}
use Rattle.std.specs.Option.{option_map_or}
use Rattle.std.proofs.lemmas.Bool.{and_parts}
use Rattle.std.proofs.lemmas.Int.{ints}
use Rattle.own_base.specs.declared.value.Value.{Value}
use Rattle.own_base.specs.declared.value.Value.TheVariants as value
use Rattle.own_base.specs.declared.value.Value.TheVariants.{Null}
use Rattle.own_model.specs.declared.expression.Expr.{Expr}
use Rattle.own_model.specs.declared.expression.Expr.TheVariants as expr
use Rattle.own_model.specs.declared.refusal.Refusal.{Refusal}
use Rattle.own_model.specs.declared.refusal.Refusal.TheVariants.{NoColumn, WrongKind}
use Rattle.own_model.specs.declared.schema.Column.{Column}
use Rattle.own_model.specs.declared.schema.Kind.{Kind}
use Rattle.own_model.specs.declared.schema.Kind.TheVariants as kind
use Rattle.own_model.specs.declared.schema.TableDef.{TableDef}
use Rattle.own_model.specs.Db.{Row}
use Rattle.query_model.specs.Expression.{increased, value_of}
use Rattle.query_model.specs.Kinds.{are_compared, is_text}
use Rattle.query_model.specs.Scope.{NameBytes}
use Rattle.query_model.specs.Truth.{cell}
use Rattle.query_model.specs.WriteFaults.{assigned_kind, column_in, expression_faults, key_write, not_a_column, set_faults}
use Rattle.query_model.specs.WriteMeaning.{bound_expression, bound_sets, column_number}
use Rattle.schema_model.proofs.Places.{all-at}
use Rattle.query_model.proofs.NoFaults.{none-first, none-last}
use Rattle.state_model.proofs.PlainKinds.{IsPlain, IsPlainColumn, IsPlainTable}
use Rattle.state_model.specs.Rows.{AreOfKinds, IsRowOf, IsStorable}
use Rattle.run_model.proofs.KeylessSets.{AreFaultless, Written, column_set}
use Rattle.run_model.proofs.Numbered.{IfNumbered, numbered-found}
use Rattle.run_model.proofs.PutRows.{IsGiven, IsNoSum, goes_step, of_kind}
use Rattle.run_model.proofs.UpdatedRows.{AreSetsOf, IsSetOf}

-- a literal that may stand in a table by its own: a row can hold it, and it is no sum; any other expression
abbrev pub IsFit : Expr → Type 0
IsFit (expr.Literal value) = IsStorable value × IsNoSum value
IsFit _ = Unit {0}

-- sets to such ones
abbrev pub AreFit : Written → Type 0
AreFit sets = AllByRecursion (λ (set : NameBytes × Expr). IsFit set.1) sets

-- what stands in a column of a row may stand there
cell-given : (columns : List Column) (row : Row) → AreOfKinds columns row → AllByRecursion IsStorable row → (place : ℕ) (column : Column)
    → slice_get columns place ≡ Some column → IsGiven column (cell row place)
cell-given [] row kinds storable place column at = absurd (cc)
cell-given (first ∷ columns) [] kinds storable place column at = absurd kinds
cell-given (first ∷ columns) (value ∷ row) kinds storable zero column at =
    let same : first ≡ column = cc in record { fits = rw (← same) kinds.0; storable = storable.0 }
cell-given (first ∷ columns) (value ∷ row) kinds storable (suc place) column at = cell-given columns row kinds.1 storable.1 place column at

-- two kinds of numbers or texts that go together are one
one_kind : (left right : Kind) → IsPlain left → IsPlain right → are_compared left right ≡ true → left ≡ right
one_kind kind.Int kind.Int plain other is = refl
one_kind kind.Int kind.Text plain other is = cc
one_kind kind.Text kind.Int plain other is = cc
one_kind kind.Text kind.Text plain other is = refl
one_kind kind.Sum right plain other is = absurd plain
one_kind left kind.Sum plain other is = absurd other

-- and a kind of such that isn't of texts is of numbers
kind_of_numbers : (of : Kind) → IsPlain of → is_text of ≡ false → of ≡ kind.Int
kind_of_numbers kind.Int plain is = refl
kind_of_numbers kind.Text plain is = cc
kind_of_numbers kind.Sum plain is = absurd plain

-- a sum is a number of 64 bits, or NULL
sum_step : (column : Column) (number : ℤ) → column.kind ≡ kind.Int → (b : Bool) → (int_le (neg_ℤ (pos (2 ^ 63))) number && int_lt number (pos (2 ^ 63))) ≡ b
    → IsGiven column (unwrap_or (if b then Some (value.Int number) else None) Null)
sum_step column number is true within =
    let both = and_parts (int_le (neg_ℤ (pos (2 ^ 63))) number) (int_lt number (pos (2 ^ 63))) within in
    let least = both.0 in
    let most = both.1 in
    record { fits = is; storable = record { least = omega (arith, ints); most = omega (arith, ints) } }
sum_step column number is false past = record { fits = tt; storable = tt }

sum-given : (column : Column) (found : Value) (number : ℤ) → column.kind ≡ kind.Int → IsGiven column (unwrap_or (increased found number) Null)
sum-given column value.Null number is = record { fits = tt; storable = tt }
sum-given column (value.Int found) number is = sum_step column (found +ℤ number) is _ refl
sum-given column (value.Text bytes) number is = record { fits = tt; storable = tt }
sum-given column (value.Sum found) number is = record { fits = tt; storable = tt }

-- a name of a column
named_step : (table : TableDef) (name : NameBytes) (found : Option (ℕ × Column)) → column_in table name ≡ found
    → option_map_or (λ found. []) found (NoColumn name ∷ []) ≡ [] → (number : ℕ) × (column : Column) × (column_in table name ≡ Some (number, column))
named_step table name None is none = absurd (cc)
named_step table name (Some found) is none = (found.0, found.1, is)

-- the column of a name stands at its number
column-at : (table : TableDef) (name : NameBytes) (number : ℕ) (column : Column) → column_in table name ≡ Some (number, column) → slice_get table.columns number ≡ Some column
column-at table name number column is =
    let there : IfNumbered table.columns (column_in table name) = numbered-found table.columns _ in rw is at there

module _ (table : TableDef) (plain : IsPlainTable table) (assigned : NameBytes) (number : ℕ) (column : Column) (at : slice_get table.columns number ≡ Some column) where
  plain_column : IsPlain column.kind
  plain_column = all-at IsPlainColumn table.columns plain number column at

  -- no sum is assigned to a column of texts
  sum_kind_step : (rest : List Refusal) (b : Bool) → (if b then WrongKind assigned ∷ [] else rest) ≡ [] → b ≡ false
  sum_kind_step rest true none = absurd (cc)
  sum_kind_step rest false none = refl

  -- a column whose kind goes with that of the column assigned has that kind
  assigned_step : (b : Bool) → (if b then [] else WrongKind assigned ∷ []) ≡ [] → b ≡ true
  assigned_step true none = refl
  assigned_step false none = absurd (cc)

  kind_assigned : (place : ℕ) (other : Column) (found : Option (ℕ × Column)) → slice_get table.columns place ≡ Some other → found ≡ Some (place, other)
      → option_map_or (λ found. assigned_kind assigned (Some (number, column)) found.1.kind) found [] ≡ [] → column.kind ≡ other.kind
  kind_assigned place other found there is none =
      one_kind column.kind other.kind plain_column (all-at IsPlainColumn table.columns plain place other there) (assigned_step _ (rw is at none))

  named-given : (name : NameBytes) (place : ℕ) (other : Column) → column_in table name ≡ Some (place, other)
      → option_map_or (λ found. assigned_kind assigned (Some (number, column)) found.1.kind) (column_in table name) [] ≡ [] → (row : Row) → IsRowOf table row
      → IsGiven column (cell row (column_number table name).0)
  named-given name place other found none row is =
      let there = column-at table name place other found in
      let kind = kind_assigned place other (column_in table name) there found none in
      let given = cell-given table.columns row is.kinds is.storable place other there in
      rw found (record { fits = rw kind given.fits; storable = given.storable })

  column-given : (name : NameBytes) → expression_faults table assigned (Some (number, column)) (expr.Column name) ≡ [] → (row : Row) → IsRowOf table row
      → IsGiven column (cell row (column_number table name).0)
  column-given name none row is =
      let named = named_step table name _ refl (none-first (not_a_column table name) _ none) in
      named-given name named.0 named.1 named.2 (none-last (not_a_column table name) _ none) row is

  -- what the expression gives may stand in the column
  expression-given : (found : Expr) → IsFit found → expression_faults table assigned (Some (number, column)) found ≡ [] → (row : Row) → IsRowOf table row
      → IsGiven column (unwrap_or (value_of (bound_expression table found) row) Null)
  unfolding value_of
  expression-given (expr.Literal value) fit none row is =
      record { fits = of_kind column.kind value plain_column fit.1 (goes_step column.kind value _ _ _ refl none); storable = fit.0 }
  expression-given (expr.Column name) fit none row is = column-given name none row is
  expression-given (expr.Plus name more) fit none row is =
      let kind = kind_of_numbers column.kind plain_column (sum_kind_step _ _ (none-last (not_a_column table name) _ none)) in
      sum-given column _ more kind
  expression-given (expr.Minus name fewer) fit none row is =
      let kind = kind_of_numbers column.kind plain_column (sum_kind_step _ _ (none-last (not_a_column table name) _ none)) in
      sum-given column _ (neg_ℤ fewer) kind

-- a set that has no fault
set-of : (table : TableDef) (set : NameBytes × Expr) → IsPlainTable table → IsFit set.1 → set_faults table set ≡ []
    → IsSetOf table (column_number table set.0, bound_expression table set.1)
set-of table set plain fit none row is column at =
    let own = column_set table set none in
    let number : (column_number table set.0).0 ≡ own.0 = rw own.2.found refl in
    let there = column-at table set.0 own.0 own.1 own.2.found in
    let same : own.1 ≡ column = (let at : slice_get table.columns own.0 ≡ Some column = rw (← number) at in cc) in
    let faultless : expression_faults table set.0 (Some (own.0, own.1)) set.1 ≡ [] =
    rw own.2.found at (none-last (not_a_column table set.0 ++ key_write table set.0) (expression_faults table set.0 (column_in table set.0) set.1) none) in
    rw (← same) (expression-given table plain set.0 own.0 own.1 there set.1 fit faultless row is)

-- the sets of an UPDATE that has none
pub sets-of : (table : TableDef) (sets : Written) → IsPlainTable table → AreFit sets → AreFaultless table sets → AreSetsOf table (bound_sets table sets)
unfolding bound_sets
sets-of table [] plain fit none = tt
sets-of table (set ∷ sets) plain fit none = (set-of table set plain fit.0 none.0, sets-of table sets plain fit.1 none.1)
