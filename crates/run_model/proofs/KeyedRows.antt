-- The row that an INSERT without faults puts has a primary key.
use Rattle.std.proofs.Common.{◌≡◌, ℕ, zero, suc, ◌+◌, List, [], ◌∷◌, ◌++◌, length, map, Bool, true, false, cond, ◌==◌, refl, ap, sym, ◌∙◌, subst, arith, eq-eqb}
use Rattle.std.specs.Prelude.{◌≢◌, ◌&&◌, ◌||◌, not, Option, Some, None, filter, flat_map, slice_get, zip, bytes_eq, if◌then◌else◌}
use Rattle.std.specs.List.{AllByRecursion, enumerate_from, list_any}
use Rattle.std.specs.Option.{option_map_or}
use Rattle.std.proofs.lemmas.Bool.{eqb-true, or_left, or_right}
use Rattle.own_base.specs.declared.value.Value.{Value}
use Rattle.own_base.specs.declared.value.Value.TheVariants.{Null}
use Rattle.own_model.specs.declared.refusal.Refusal.{Refusal}
use Rattle.own_model.specs.declared.refusal.Refusal.TheVariants.{Count, NullValue}
use Rattle.own_model.specs.declared.schema.Column.{Column}
use Rattle.own_model.specs.declared.schema.TableDef.{TableDef}
use Rattle.schema_model.specs.OwnerSchema.{ColumnsDiffer}
use Rattle.schema_model.proofs.Found.{find-none, find-some}
use Rattle.schema_model.proofs.Names.{one_column, same_name}
use Rattle.schema_model.proofs.Places.{all-at, append-none, flat_map-none}
use Rattle.subject_model.proofs.ForgetKeys.{get_numbered}
use Rattle.query_model.specs.Scope.{NameBytes}
use Rattle.query_model.specs.Truth.{cell, is_null}
use Rattle.query_model.specs.WriteFaults.{column_in, columns_for, columns_left, left_faults, numbered_columns, takes_no_null, tuple_faults, value_faults, wrong_count}
use Rattle.query_model.specs.WriteMeaning.{given, is_for, put_row}
use Rattle.state_model.proofs.Consistency.{cell_is}
use Rattle.state_model.proofs.KeyColumns.{HasKey}
use Rattle.run_model.proofs.Numbered.{IfNumbered, numbered-found}

-- the column that a value is for, if there is one
abbrev Target : Type 0
Target = Option (ℕ × Column)

-- whether it is the column of this number
abbrev is_of : ℕ → Target → Bool
is_of number target = option_map_or (λ column. column.0 == number) target false

module _ (table : TableDef) where
  null_step : (column : ℕ × Column) (value : Value) (null takes : Bool) → is_null value ≡ null → takes_no_null table column ≡ takes
      → (if is_null value && takes_no_null table column then NullValue column.1.name ∷ [] else []) ≡ [] → takes ≡ true → null ≡ false
  null_step column value true true is_null takes none now = let never : ◌≡◌ {A = List Refusal} (NullValue column.1.name ∷ []) [] = rw (is_null, takes) at none in cc
  null_step column value true false is_null takes none now = let never : false ≡ true = now in cc
  null_step column value false takes is_null takes_is none now = refl

  not_null : (value : Value) → is_null value ≡ false → value ≢ Null
  not_null value none null = let never : true ≡ false = subst (λ v. is_null v ≡ false) null none in cc

  -- a value for the key without faults isn't NULL
  key_value : (target : Target) (value : Value) → is_of table.key.0 target ≡ true → value_faults table target value ≡ [] → value ≢ Null
  key_value None value is none = let never : false ≡ true = is in cc
  key_value (Some column) value is none =
      let takes : takes_no_null table column ≡ true = or_left _ _ is in
      not_null value (null_step column value (is_null value) true refl takes (append-none _ _ none).1 refl)

  -- so what the key is given, where some value is for it, isn't NULL
  given_step : (pair : Target × Value) (pairs : List (Target × Value)) (column : Column) → value_faults table pair.0 pair.1 ≡ []
      → (list_any (is_for table.key.0) pairs ≡ true → given pairs (table.key.0, column) ≢ Null)
      → (b : Bool) → is_for table.key.0 pair ≡ b → (b || list_any (is_for table.key.0) pairs) ≡ true → given (pair ∷ pairs) (table.key.0, column) ≢ Null
  given_step pair pairs column none more true is any = rw is (key_value pair.0 pair.1 is none)
  given_step pair pairs column none more false is any = rw is (more any)

  given_key : (pairs : List (Target × Value)) (column : Column) → AllByRecursion (λ pair. value_faults table pair.0 pair.1 ≡ []) pairs → list_any (is_for table.key.0) pairs ≡ true
      → given pairs (table.key.0, column) ≢ Null
  given_key [] column none any = let never : false ≡ true = any in cc
  given_key (pair ∷ pairs) column none any = given_step pair pairs column none.0 (given_key pairs column none.1) _ refl any

  -- a target that the tuple reaches has its value
  any_zip : (targets : List Target) (tuple : List Value) → length tuple ≡ length targets → list_any (is_of table.key.0) targets ≡ true → list_any (is_for table.key.0) (zip targets tuple) ≡ true
  any_zip [] tuple same any = let never : false ≡ true = any in cc
  any_zip (target ∷ targets) [] same any = absurd (omega arith)
  any_zip (target ∷ targets) (value ∷ tuple) same any = by (any_zip targets tuple (omega arith)) (is_of table.key.0 target) refl any
    where
      by : (list_any (is_of table.key.0) targets ≡ true → list_any (is_for table.key.0) (zip targets tuple) ≡ true) → (b : Bool) → is_of table.key.0 target ≡ b
          → (b || list_any (is_of table.key.0) targets) ≡ true → (is_of table.key.0 target || list_any (is_for table.key.0) (zip targets tuple)) ≡ true
      by more true is now = or_left _ _ is
      by more false is now = or_right _ _ (more now)

  count_step : (got wanted : ℕ) → (b : Bool) → (got == wanted) ≡ b → (if got == wanted then [] else Count got wanted ∷ []) ≡ [] → got ≡ wanted
  count_step got wanted true is none = eqb-true got wanted is
  count_step got wanted false is none = let never : ◌≡◌ {A = List Refusal} (Count got wanted ∷ []) [] = rw is at none in cc

  module _ (key : HasKey table) (differ : ColumnsDiffer table) where
    -- the key is among all columns
    all_columns : (number : ℕ) (columns : List Column) (place : ℕ) → slice_get columns place ≡ Some key.column → list_any (is_of (number + place)) (map (λ column. Some column) (enumerate_from number columns)) ≡ true
    all_columns number [] place is = let never : ◌≡◌ {A = Option Column} None (Some key.column) = is in cc
    all_columns number (first ∷ columns) zero is = or_left _ _ (eq-eqb number (number + zero) (omega arith))
    all_columns number (first ∷ columns) (suc place) is =
        let n : number + 1 + place ≡ number + suc place = omega arith in
        or_right _ _ (subst (λ n. list_any (is_of n) (map (λ column. Some column) (enumerate_from (number + 1) columns)) ≡ true) n (all_columns (number + 1) columns place is))

    -- and among those left where it isn't named
    key_numbered : (number : ℕ) (columns : List Column) (place : ℕ) → slice_get columns place ≡ Some key.column → slice_get (enumerate_from number columns) place ≡ Some (number + place, key.column)
    key_numbered number [] place is = let never : ◌≡◌ {A = Option Column} None (Some key.column) = is in cc
    key_numbered number (first ∷ columns) zero is =
        let same : first ≡ key.column = cc in
        let n : number ≡ number + zero = omega arith in
        let pair : ℕ → Column → ℕ × Column = λ n c. (n, c) in
        ap (λ c. Some (pair number c)) same ∙ ap (λ n. Some (pair n key.column)) n
    key_numbered number (first ∷ columns) (suc place) is =
        let n : number + 1 + place ≡ number + suc place = omega arith in
        let pair : ℕ → ℕ × Column = λ n. (n, key.column) in
        key_numbered (number + 1) columns place is ∙ ap (λ n. Some (pair n)) n

    key_there : slice_get (numbered_columns table) table.key.0 ≡ Some (table.key.0, key.column)
    key_there =
        let n : 0 + table.key.0 ≡ table.key.0 = omega arith in
        let pair : ℕ → ℕ × Column = λ n. (n, key.column) in
        key_numbered 0 table.columns table.key.0 key.column_is ∙ ap (λ n. Some (pair n)) n

    -- a name of the key's column is found at the key
    found_case : (name : NameBytes) → bytes_eq name key.column.name ≡ true → (found : Option (ℕ × Column)) → column_in table name ≡ found → is_of table.key.0 found ≡ true
    found_case name named None none =
        let fails = all-at (λ (numbered : ℕ × Column). bytes_eq numbered.1.name name ≡ false) (numbered_columns table)
        (find-none (λ (numbered : ℕ × Column). bytes_eq numbered.1.name name) (numbered_columns table) none) table.key.0 (table.key.0, key.column) key_there in
        let same : name ≡ key.column.name = same_name name key.column.name named in
        let passes : bytes_eq key.column.name name ≡ true = subst (λ n. bytes_eq n name ≡ true) same (subst (λ n. bytes_eq name n ≡ true) (sym same) named) in
        let never : true ≡ false = sym passes ∙ fails in
        cc
    found_case name named (Some found) is =
        let has = find-some (λ (numbered : ℕ × Column). bytes_eq numbered.1.name name) (numbered_columns table) found is in
        let there : IfNumbered table.columns (column_in table name) = numbered-found table.columns _ in
        let at : slice_get table.columns found.0 ≡ Some found.1 = rw is at there in
        let names : found.1.name ≡ key.column.name = same_name found.1.name name has.1 ∙ same_name name key.column.name named in
        eq-eqb found.0 table.key.0 (one_column table differ found.0 table.key.0 found.1 key.column at key.column_is names)

    named_any : (names : List NameBytes) → list_any (λ name. bytes_eq name key.column.name) names ≡ true → list_any (is_of table.key.0) (map (column_in table) names) ≡ true
    named_any [] any = let never : false ≡ true = any in cc
    named_any (name ∷ names) any = by (named_any names) (bytes_eq name key.column.name) refl any
      where
        by : (list_any (λ name. bytes_eq name key.column.name) names ≡ true → list_any (is_of table.key.0) (map (column_in table) names) ≡ true)
            → (b : Bool) → bytes_eq name key.column.name ≡ b → (b || list_any (λ name. bytes_eq name key.column.name) names) ≡ true
            → (is_of table.key.0 (column_in table name) || list_any (is_of table.key.0) (map (column_in table) names)) ≡ true
        by more true named now = or_left _ _ (found_case name named _ refl)
        by more false named now = or_right _ _ (more now)

    -- where it isn't named, that is a fault
    left_key : (columns : List (ℕ × Column)) (place : ℕ) (test : ℕ × Column → Bool) → slice_get columns place ≡ Some (table.key.0, key.column) → test (table.key.0, key.column) ≡ true
        → left_faults table (filter test columns) ≡ [] → ⊥
    left_key [] place test is passes none = let never : ◌≡◌ {A = Option (ℕ × Column)} None (Some (table.key.0, key.column)) = is in cc
    left_key (first ∷ columns) zero test is passes none =
        let same : first ≡ (table.key.0, key.column) = cc in
        let passes_first : test first ≡ true = ap test same ∙ passes in
        let takes : takes_no_null table first ≡ true = subst (λ column. takes_no_null table column ≡ true) (sym same) (or_left _ _ (eq-eqb table.key.0 table.key.0 refl)) in
        let never : ◌≡◌ {A = List Refusal} (NullValue first.1.name ∷ left_faults table (filter test columns)) [] = rw (passes_first, takes) at none in
        cc
    left_key (first ∷ columns) (suc place) test is passes none = by (left_key columns place test is passes) (test first) none
      where
        by : (left_faults table (filter test columns) ≡ [] → ⊥) → (b : Bool) → left_faults table (cond b (first ∷ filter test columns) (filter test columns)) ≡ [] → ⊥
        by more true now = more (append-none _ _ now).1
        by more false now = more now

    key_named : (names : List NameBytes) → left_faults table (columns_left table (Some names)) ≡ [] → (b : Bool) → list_any (λ name. bytes_eq name key.column.name) names ≡ b → b ≡ true
    key_named names none true any = refl
    key_named names none false any =
        absurd (left_key (numbered_columns table) table.key.0 (λ column. not (list_any (λ name. bytes_eq name column.1.name) names)) key_there (ap not any) none)

    -- so a value of each tuple without faults is for the key
    key_target : (names : Option (List NameBytes)) → left_faults table (columns_left table names) ≡ [] → list_any (is_of table.key.0) (columns_for table names) ≡ true
    key_target None none = let n : 0 + table.key.0 ≡ table.key.0 = omega arith in
        subst (λ n. list_any (is_of n) (map (λ column. Some column) (numbered_columns table)) ≡ true) n (all_columns 0 table.columns table.key.0 key.column_is)
    key_target (Some names) none = named_any names (key_named names none _ refl)

    pub keyed-put : (names : Option (List NameBytes)) (tuple : List Value) → tuple_faults table names tuple ≡ [] → cell (put_row table names tuple) table.key.0 ≢ Null
    unfolding put_row
    keyed-put names tuple none null =
        let targets = columns_for table names in
        let pairs = zip targets tuple in
        let counted = append-none (wrong_count (length tuple) (length targets) ++ flat_map (λ pair. value_faults table pair.0 pair.1) pairs) (left_faults table (columns_left table names)) none in
        let faultless = append-none (wrong_count (length tuple) (length targets)) (flat_map (λ pair. value_faults table pair.0 pair.1) pairs) counted.0 in
        let same : length tuple ≡ length targets = count_step (length tuple) (length targets) _ refl faultless.0 in
        let any = any_zip targets tuple same (key_target names counted.1) in
        let each = flat_map-none (λ pair. value_faults table pair.0 pair.1) pairs faultless.1 in
        let at : slice_get (map (given pairs) (numbered_columns table)) table.key.0 ≡ Some (given pairs (table.key.0, key.column)) =
        get_numbered (given pairs) table.columns table.key.0 ∙ rw key.column_is refl in
        given_key pairs key.column each any (sym (cell_is (map (given pairs) (numbered_columns table)) table.key.0 (given pairs (table.key.0, key.column)) at) ∙ null)
