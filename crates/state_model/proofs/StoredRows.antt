-- What the rows of tables hold: a value for each column, so few of them, and no sum.
use Rattle.std.proofs.Common.{◌≡◌, ◌≤◌, ℕ, zero, suc, List, [], ◌∷◌, length, refl, ap, arith}
use Rattle.std.specs.Prelude.{Some, slice_get}
use Rattle.std.specs.List.{All, AllByRecursion}
use Rattle.std.proofs.lemmas.List.Elements.{All-cons, All-nil}
use Rattle.own_base.specs.declared.value.Value.{Value}
use Rattle.own_base.specs.declared.value.Value.TheVariants.{Null, Int, Text, Sum}
use Rattle.own_model.specs.declared.limit.TheConstants.{TABLE_COLUMNS}
use Rattle.own_model.specs.declared.schema.Column.{Column}
use Rattle.own_model.specs.declared.schema.Kind.{Kind}
use Rattle.own_model.specs.declared.schema.Schema.{Schema}
use Rattle.own_model.specs.declared.schema.TableDef.{TableDef}
use Rattle.own_model.specs.Db.{Row}
use Rattle.own_model.specs.Stored.{rows_at}
use Rattle.schema_model.specs.WithinLimits.{IsTableWithin, IsWithinLimits}
use Rattle.schema_model.proofs.Places.{all-at}
use Rattle.query_model.specs.Stored.{AreStored, IsStored, IsStoredRow}
use Rattle.state_model.specs.Rows.{AreOfKinds, AreRowsOf, IsOfKind, IsRowOf}

-- a row of a table's kinds is as long as its columns
pub length-of_kinds : (columns : List Column) (row : Row) → AreOfKinds columns row → length row ≡ length columns
length-of_kinds [] [] are = refl
length-of_kinds [] (value ∷ row) are = absurd are
length-of_kinds (column ∷ columns) [] are = absurd are
length-of_kinds (column ∷ columns) (value ∷ row) are = ap suc (length-of_kinds columns row are.1)

-- the rows at a table's number may stand in it
pub rows-at : (tables : List TableDef) (rows : List (List Row)) (number : ℕ) (table : TableDef) → AreRowsOf tables rows
    → slice_get tables number ≡ Some table → AllByRecursion (IsRowOf table) (rows_at rows number)
rows-at [] rows number table are is = cc
rows-at (first ∷ tables) [] number table are is = absurd are
rows-at (first ∷ tables) (one ∷ rows) zero table are is = let same : first ≡ table = cc in rw (← same) are.0
rows-at (first ∷ tables) (one ∷ rows) (suc number) table are is = rows-at tables rows number table are.1 is

-- so each of them has no more values than a table may have columns
pub row-within : (schema : Schema) (rows : List (List Row)) (number place : ℕ) (table : TableDef) (row : Row) → IsWithinLimits schema → AreRowsOf schema.tables rows
    → slice_get schema.tables number ≡ Some table → slice_get (rows_at rows number) place ≡ Some row → length row ≤ TABLE_COLUMNS
row-within schema rows number place table row limits are is there =
    let within : IsTableWithin table = all-at IsTableWithin schema.tables limits.each number table is in
    let own : IsRowOf table row = all-at (IsRowOf table) (rows_at rows number) (rows-at schema.tables rows number table are is) place row there in
    omega (arith, length-of_kinds table.columns row own.kinds, within.columns)

-- a value of a column's kind is no sum
kind_stored : (kind : Kind) (value : Value) → IsOfKind kind value → IsStored value
kind_stored kind Null is = tt
kind_stored kind (Int number) is = tt
kind_stored kind (Text bytes) is = tt
kind_stored kind (Sum number) is = absurd is

kinds_stored : (columns : List Column) (row : Row) → AreOfKinds columns row → IsStoredRow row
kinds_stored [] [] are = All-nil IsStored
kinds_stored [] (value ∷ row) are = absurd are
kinds_stored (column ∷ columns) [] are = absurd are
kinds_stored (column ∷ columns) (value ∷ row) are = All-cons IsStored value row (kind_stored column.kind value are.0) (kinds_stored columns row are.1)

rows_stored : (table : TableDef) (rows : List Row) → AllByRecursion (IsRowOf table) rows → AreStored rows
rows_stored table [] are = All-nil IsStoredRow
rows_stored table (row ∷ rows) are = All-cons IsStoredRow row rows (kinds_stored table.columns row are.0.kinds) (rows_stored table rows are.1)

-- so no row of a table holds one
pub all_stored : (tables : List TableDef) (rows : List (List Row)) → AreRowsOf tables rows → All AreStored rows
all_stored [] [] are = All-nil AreStored
all_stored [] (rows ∷ rest) are = absurd are
all_stored (table ∷ tables) [] are = absurd are
all_stored (table ∷ tables) (rows ∷ rest) are = All-cons AreStored rows rest (rows_stored table rows are.0) (all_stored tables rest are.1)
