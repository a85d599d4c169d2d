-- The rows that an INSERT without faults puts: they may stand in its table, and have no more bytes of texts than its tuples.
use Rattle.std.proofs.Common.{◌≡◌, ℕ, ◌+◌, ◌<◌, ◌≤◌, ℤ, List, [], ◌∷◌, ◌++◌, length, map, Bool, true, false, cond, refl, ap, arith, ◌==◌}
use Rattle.std.specs.Prelude.{Option, Some, None, flat_map, slice_get, sum_by, zip}
use Rattle.std.specs.List.{AllByRecursion, enumerate_from}
use Rattle.std.proofs.lemmas.Bool.{eqb-true, ne_eqb}
use Rattle.std.proofs.lemmas.List.Sums.{sum_by-cons}
use Rattle.own_base.specs.declared.value.Value.{Value}
use Rattle.own_base.specs.declared.value.Value.TheVariants as value
use Rattle.own_model.specs.declared.refusal.Refusal.{Refusal}
use Rattle.own_model.specs.declared.schema.Column.{Column}
use Rattle.own_model.specs.declared.schema.Kind.{Kind}
use Rattle.own_model.specs.declared.schema.Kind.TheVariants as kind
use Rattle.own_model.specs.declared.schema.TableDef.{TableDef}
use Rattle.own_model.specs.TextBytes.{text_bytes, tuple_bytes}
use Rattle.schema_model.proofs.Places.{all-at, append-none, flat_map-none}
use Rattle.schema_model.specs.OwnerSchema.{ColumnsDiffer}
use Rattle.query_model.specs.Kinds.{goes_with}
use Rattle.query_model.specs.Scope.{NameBytes}
use Rattle.query_model.specs.WriteFaults.{column_in, columns_for, columns_left, left_faults, numbered_columns, tuple_faults, value_faults, wrong_count}
use Rattle.query_model.specs.WriteMeaning.{given, is_for, put_row}
use Rattle.state_model.specs.Rows.{AreOfKinds, IsOfKind, IsRowOf, IsStorable}
use Rattle.state_model.proofs.KeyColumns.{HasKey}
use Rattle.state_model.proofs.PlainKinds.{IsPlain, IsPlainColumn, IsPlainTable}
use Rattle.run_model.proofs.KeyedRows.{keyed-put}
use Rattle.run_model.proofs.Numbered.{IfNumbered, IsNumbered, numbered-each, numbered-found}
use Rattle.run_model.proofs.StorableValues.{AreStorable}

-- the column that a value is for, if there is one
abbrev Target : Type 0
Target = Option (ℕ × Column)

-- values with the columns that they are for
abbrev Pairs : Type 0
Pairs = List (Target × Value)

-- the columns that values are for are columns of the table
abbrev AreTargets : TableDef → List Target → Type 0
AreTargets table targets = AllByRecursion (IfNumbered table.columns) targets

-- where no columns are named, and where some are
all_columns : (table : TableDef) (columns : List (ℕ × Column)) → AllByRecursion (IsNumbered table.columns) columns → AreTargets table (map (λ column. Some column) columns)
all_columns table [] all = tt
all_columns table (column ∷ columns) all = (all.0, all_columns table columns all.1)

named_columns : (table : TableDef) (names : List NameBytes) → AreTargets table (map (column_in table) names)
named_columns table [] = tt
named_columns table (name ∷ names) = (numbered-found table.columns _, named_columns table names)

-- where a tuple's values go
targets : (table : TableDef) (names : Option (List NameBytes)) → AreTargets table (columns_for table names)
targets table None = all_columns table (numbered_columns table) (numbered-each table.columns)
targets table (Some names) = named_columns table names

-- a value that is no sum
abbrev pub IsNoSum : Value → Type 0
IsNoSum found = (number : ℤ) → found ≡ value.Sum number → ⊥

-- such a value is of the kind with which it goes, if it isn't the kind of sums
pub of_kind : (of : Kind) (value : Value) → IsPlain of → IsNoSum value → goes_with of value ≡ true → IsOfKind of value
of_kind of value.Null plain no_sum goes = tt
of_kind kind.Int (value.Int number) plain no_sum goes = refl
of_kind kind.Int (value.Text bytes) plain no_sum goes = cc
of_kind kind.Text (value.Int number) plain no_sum goes = cc
of_kind kind.Text (value.Text bytes) plain no_sum goes = refl
of_kind kind.Sum value plain no_sum goes = absurd plain
of_kind of (value.Sum number) plain no_sum goes = absurd (no_sum number refl)

-- A value with the column that it is for: a row can hold it, and it is of the column's kind.
record IsGood (table : TableDef) (pair : Target × Value) : Type 0 where
  storable : IsStorable pair.1
  fits : (number : ℕ) (column : Column) → is_for number pair ≡ true → slice_get table.columns number ≡ Some column → IsOfKind column.kind pair.1

-- a value without a fault goes with its column's kind
pub goes_step : (kind : Kind) (value : Value) (fault : Refusal) (more : List Refusal) → (b : Bool) → goes_with kind value ≡ b
    → (cond b [] (fault ∷ [])) ++ more ≡ [] → goes_with kind value ≡ true
goes_step kind value fault more true is none = is
goes_step kind value fault more false is none = let never : ⊥ = cc in absurd never

-- a value without faults
good : (table : TableDef) (target : Target) (value : Value) → IsPlainTable table → IfNumbered table.columns target → IsStorable value → IsNoSum value
    → value_faults table target value ≡ [] → IsGood table (target, value)
good table None value plain there storable no_sum none = record { storable = storable; fits = λ number column is at. let never : ⊥ = cc in absurd never }
good table (Some target) value plain there storable no_sum none = record {
  storable = storable;
  fits = λ number column is at.
      let same : target.0 ≡ number = eqb-true target.0 number is in
      let own : slice_get table.columns number ≡ Some target.1 = rw (← same) there in
      let one : target.1 ≡ column = cc in
      let goes = goes_step target.1.kind value _ _ _ refl none in
      rw (← one) (of_kind target.1.kind value (all-at IsPlainColumn table.columns plain number target.1 own) no_sum goes);
}

-- the values of a tuple without faults
good_pairs : (table : TableDef) (targets : List Target) (tuple : List Value) → IsPlainTable table → AreTargets table targets
    → AllByRecursion IsStorable tuple → AllByRecursion IsNoSum tuple
    → AllByRecursion (λ pair. value_faults table pair.0 pair.1 ≡ []) (zip targets tuple) → AllByRecursion (IsGood table) (zip targets tuple)
good_pairs table [] tuple plain there storable no_sums none = tt
good_pairs table (target ∷ targets) [] plain there storable no_sums none = tt
good_pairs table (target ∷ targets) (value ∷ tuple) plain there storable no_sums none =
    (good table target value plain there.0 storable.0 no_sums.0 none.0, good_pairs table targets tuple plain there.1 storable.1 no_sums.1 none.1)

-- what a column is given
pub record IsGiven (column : Column) (value : Value) : Type 0 where
  pub fits : IsOfKind column.kind value
  pub storable : IsStorable value

-- by whether the first value is for the column
given_step : (table : TableDef) (pair : Target × Value) (pairs : Pairs) (column : ℕ × Column)
    → IsNumbered table.columns column → IsGood table pair → IsGiven column.1 (given pairs column)
    → (b : Bool) → is_for column.0 pair ≡ b → IsGiven column.1 (given (pair ∷ pairs) column)
given_step table pair pairs column at one later true is = rw is (record { fits = one.fits column.0 column.1 is at; storable = one.storable })
given_step table pair pairs column at one later false is = rw is later

-- a column is given one of the values, or NULL
is_given : (table : TableDef) (pairs : Pairs) (column : ℕ × Column) → IsNumbered table.columns column
    → AllByRecursion (IsGood table) pairs → IsGiven column.1 (given pairs column)
is_given table [] column at all = record { fits = tt; storable = tt }
is_given table (pair ∷ pairs) column at all = given_step table pair pairs column at all.0 (is_given table pairs column at all.1) _ refl

-- what columns are given is a row of theirs
given_row : (table : TableDef) (pairs : Pairs) (number : ℕ) (columns : List Column)
    → AllByRecursion (IsGood table) pairs → AllByRecursion (IsNumbered table.columns) (enumerate_from number columns)
    → AreOfKinds columns (map (given pairs) (enumerate_from number columns)) × AllByRecursion IsStorable (map (given pairs) (enumerate_from number columns))
given_row table pairs number [] good at = (tt, tt)
given_row table pairs number (column ∷ columns) good at =
    let first = is_given table pairs (number, column) at.0 good in
    let rest = given_row table pairs (number + 1) columns good at.1 in
    ((first.fits, rest.0), (first.storable, rest.1))

-- the row that a tuple without faults puts
row-put : (table : TableDef) (names : Option (List NameBytes)) (tuple : List Value) → HasKey table → ColumnsDiffer table → IsPlainTable table → AllByRecursion IsStorable tuple → AllByRecursion IsNoSum tuple
    → tuple_faults table names tuple ≡ [] → IsRowOf table (put_row table names tuple)
unfolding put_row
row-put table names tuple key differ plain storable no_sums none =
    let pairs = zip (columns_for table names) tuple in
    let counted = append-none (wrong_count (length tuple) (length (columns_for table names)) ++ flat_map (λ pair. value_faults table pair.0 pair.1) pairs)
    (left_faults table (columns_left table names)) none in
    let faultless = append-none (wrong_count (length tuple) (length (columns_for table names))) (flat_map (λ pair. value_faults table pair.0 pair.1) pairs) counted.0 in
    let good = good_pairs table (columns_for table names) tuple plain (targets table names) storable no_sums
    (flat_map-none (λ pair. value_faults table pair.0 pair.1) pairs faultless.1) in
    let row = given_row table pairs 0 table.columns good (numbered-each table.columns) in
    record { kinds = row.0; storable = row.1; keyed = keyed-put table key differ names tuple none }

-- the rows of tuples without faults
pub rows-put : (table : TableDef) (names : Option (List NameBytes)) (tuples : List (List Value)) → HasKey table → ColumnsDiffer table → IsPlainTable table → AreStorable tuples
    → AllByRecursion (AllByRecursion IsNoSum) tuples → AllByRecursion (λ tuple. tuple_faults table names tuple ≡ []) tuples
    → AllByRecursion (IsRowOf table) (map (put_row table names) tuples)
rows-put table names [] key differ plain storable no_sums none = tt
rows-put table names (tuple ∷ tuples) key differ plain storable no_sums none =
    (row-put table names tuple key differ plain storable.0 no_sums.0 none.0, rows-put table names tuples key differ plain storable.1 no_sums.1 none.1)

-- the bytes that columns from a number on are given
abbrev given_bytes : Pairs → ℕ → List Column → ℕ
given_bytes pairs number columns = tuple_bytes (map (given pairs) (enumerate_from number columns))

-- a value for a column of a lower number is given to none of them
given-past : (target : ℕ × Column) (value : Value) (pairs : Pairs) (number : ℕ) (columns : List Column) → target.0 < number
    → map (given ((Some target, value) ∷ pairs)) (enumerate_from number columns) ≡ map (given pairs) (enumerate_from number columns)
given-past target value pairs number [] past = refl
given-past target value pairs number (column ∷ columns) past =
    let other : (target.0 == number) ≡ false = ne_eqb target.0 number (λ same. absurd (omega arith)) in
    let rest = given-past target value pairs (number + 1) columns (omega arith) in
    rw other (ap (λ row. given pairs (number, column) ∷ row) rest)

-- by whether the value is for the first of the columns
once_step : (target : ℕ × Column) (value : Value) (pairs : Pairs) (number : ℕ) (column : Column) (columns : List Column)
    → given_bytes ((Some target, value) ∷ pairs) (number + 1) columns ≤ text_bytes value + given_bytes pairs (number + 1) columns
    → (b : Bool) → (target.0 == number) ≡ b
    → text_bytes (given ((Some target, value) ∷ pairs) (number, column)) + given_bytes ((Some target, value) ∷ pairs) (number + 1) columns
    ≤ text_bytes value + text_bytes (given pairs (number, column)) + given_bytes pairs (number + 1) columns
once_step target value pairs number column columns later true is =
    let same = eqb-true target.0 number is in
    let past = ap tuple_bytes (given-past target value pairs (number + 1) columns (omega arith)) in
    rw is (omega arith)
once_step target value pairs number column columns later false is = rw is (omega arith)

-- a value is given once
given-once : (target : Target) (value : Value) (pairs : Pairs) (number : ℕ) (columns : List Column)
    → given_bytes ((target, value) ∷ pairs) number columns ≤ text_bytes value + given_bytes pairs number columns
given-once None value pairs number columns =
    let same : given_bytes ((None, value) ∷ pairs) number columns ≡ given_bytes pairs number columns = refl in omega arith
given-once (Some target) value pairs number [] = omega arith
given-once (Some target) value pairs number (column ∷ columns) =
    let later = given-once (Some target) value pairs (number + 1) columns in
    let step = once_step target value pairs number column columns later _ refl in
    let long = sum_by-cons text_bytes (given ((Some target, value) ∷ pairs) (number, column)) (map (given ((Some target, value) ∷ pairs)) (enumerate_from (number + 1) columns)) in
    let short = sum_by-cons text_bytes (given pairs (number, column)) (map (given pairs) (enumerate_from (number + 1) columns)) in
    omega arith

-- where there are no values, none is given
given-none : (number : ℕ) (columns : List Column) → given_bytes [] number columns ≡ 0
given-none number [] = refl
given-none number (column ∷ columns) = given-none (number + 1) columns

-- all values together give no more bytes than they have
given-most : (targets : List Target) (tuple : List Value) (columns : List Column)
    → given_bytes (zip targets tuple) 0 columns ≤ tuple_bytes tuple
given-most [] tuple columns = let none = given-none 0 columns in omega arith
given-most (target ∷ targets) [] columns = let none = given-none 0 columns in omega arith
given-most (target ∷ targets) (value ∷ tuple) columns =
    let later = given-most targets tuple columns in
    let one = given-once target value (zip targets tuple) 0 columns in
    let own = sum_by-cons text_bytes value tuple in
    omega arith

-- the rows that tuples put have no more bytes of texts than they
pub bytes-put : (table : TableDef) (names : Option (List NameBytes)) (tuples : List (List Value))
    → sum_by tuple_bytes (map (put_row table names) tuples) ≤ sum_by tuple_bytes tuples
unfolding put_row
bytes-put table names [] = omega arith
bytes-put table names (tuple ∷ tuples) =
    let own = given-most (columns_for table names) tuple table.columns in
    let rest = bytes-put table names tuples in
    let put = sum_by-cons tuple_bytes (put_row table names tuple) (map (put_row table names) tuples) in
    let whole = sum_by-cons tuple_bytes tuple tuples in
    omega arith
