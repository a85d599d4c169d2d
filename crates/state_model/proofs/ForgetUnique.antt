-- A FORGET leaves no value twice in a UNIQUE column: values only go.
use Rattle.std.proofs.Common.{◌≡◌, ℕ, List, [], Bool, true, false, refl, sym, ◌∙◌, subst}
use Rattle.std.specs.Prelude.{◌&&◌, not, Some, slice_get}
use Rattle.std.proofs.lemmas.Bool.{and_from, and_parts, false_from_ne_true, not-true}
use Rattle.own_base.specs.declared.row_name.RowName.{RowName}
use Rattle.own_base.specs.declared.value.Value.{Value}
use Rattle.own_base.specs.declared.value.Value.TheVariants.{Null, Int, Text, Sum}
use Rattle.own_model.specs.declared.refusal.Refusal.TheVariants.{Unique}
use Rattle.own_model.specs.declared.schema.TableDef.{TableDef}
use Rattle.own_model.specs.Db.{Db, Row, key_of}
use Rattle.own_model.specs.Stored.{has_key, is_equal}
use Rattle.own_base.specs.Key.{key_cmp}
use Rattle.query_model.specs.Truth.{cell, is_null}
use Rattle.schema_model.specs.OwnerSchema.{IsOwnerSchema}
use Rattle.subject_model.specs.Forget.{left_in}
use Rattle.subject_model.proofs.ForgetKeys.{cell_left, kept_value, key_left}
use Rattle.subject_model.proofs.ForgetRows.{contains_left_in, named_in, row_left}
use Rattle.subject_model.proofs.Members.{any_contained, contains_any}
use Rattle.state_model.specs.Fault.{breaks_unique, is_shared, unique_rule}
use Rattle.state_model.specs.Same.{is_same_value}
use Rattle.state_model.proofs.FaultLemmas.{columns_pass, column_value, pass_columns}

-- a value that isn't NULL was kept
kept_whole : (lost : Bool) (value : Value) → is_null (kept_value lost value) ≡ false → kept_value lost value ≡ value
kept_whole true value none = let never : true ≡ false = none in cc
kept_whole false value none = refl

-- what is the same as a value that isn't NULL isn't NULL
same_not_null : (one other : Value) → is_same_value one other ≡ true → is_null other ≡ false → is_null one ≡ false
unfolding is_same_value
same_not_null one Null same whole = let never : true ≡ false = whole in cc
same_not_null Null (Int number) same whole = let never : false ≡ true = same in cc
same_not_null (Int other) (Int number) same whole = refl
same_not_null (Text bytes) (Int number) same whole = refl
same_not_null (Sum other) (Int number) same whole = refl
same_not_null Null (Text bytes) same whole = let never : false ≡ true = same in cc
same_not_null (Int number) (Text bytes) same whole = refl
same_not_null (Text other) (Text bytes) same whole = refl
same_not_null (Sum number) (Text bytes) same whole = refl
same_not_null Null (Sum number) same whole = let never : false ≡ true = same in cc
same_not_null (Int other) (Sum number) same whole = refl
same_not_null (Text bytes) (Sum number) same whole = refl
same_not_null (Sum other) (Sum number) same whole = refl

module _ (db : Db) (subject : RowName) (owner : IsOwnerSchema db.schema) (number : ℕ) (table : TableDef) (is : slice_get db.schema.tables number ≡ Some table) (rows : List Row) where
  -- what a row that is left holds in a column, where it isn't NULL, the row held
  held_before : (row : Row) (place : ℕ) → is_null (cell (row_left db subject number table row) place) ≡ false → cell (row_left db subject number table row) place ≡ cell row place
  held_before row place whole =
      let kept = cell_left db subject table (named_in number table row) place in
      kept ∙ kept_whole _ (cell row place) (subst (λ v. is_null v ≡ false) kept whole)

  same_before : (row other : Row) (place : ℕ) → is_null (cell (row_left db subject number table row) place) ≡ false
      → is_same_value (cell (row_left db subject number table other) place) (cell (row_left db subject number table row) place) ≡ true → is_same_value (cell other place) (cell row place) ≡ true
  same_before row other place whole same =
      let other_whole = same_not_null (cell (row_left db subject number table other) place) (cell (row_left db subject number table row) place) same whole in
      subst (λ v. is_same_value (cell other place) v ≡ true) (held_before row place whole)
      (subst (λ v. is_same_value v (cell (row_left db subject number table row) place) ≡ true) (held_before other place other_whole) same)

  -- rows that are left have different keys where the rows had
  differs_before : (row other : Row) → not (has_key table (key_of table (row_left db subject number table row)) (row_left db subject number table other)) ≡ true
      → not (has_key table (key_of table row) other) ≡ true
  differs_before row other differs =
      let own : key_of table (row_left db subject number table row) ≡ key_of table row = key_left db subject table (named_in number table row) owner is in
      let its : key_of table (row_left db subject number table other) ≡ key_of table other = key_left db subject table (named_in number table other) owner is in
      subst (λ k. not (is_equal (key_cmp (key_of table other) k)) ≡ true) own
      (subst (λ k. not (is_equal (key_cmp k (key_of table (row_left db subject number table row)))) ≡ true) its differs)

  -- so a value that another row that is left holds too, two rows held
  shared_before : (row : Row) (place : ℕ) → is_null (cell (row_left db subject number table row) place) ≡ false
      → is_shared table (left_in db subject number table rows) (key_of table (row_left db subject number table row)) place (cell (row_left db subject number table row) place) ≡ true
      → is_shared table rows (key_of table row) place (cell row place) ≡ true
  shared_before row place whole shared =
      let left = row_left db subject number table in
      let apart : Row → Bool = λ other. not (has_key table (key_of table (left row)) other) && is_same_value (cell other place) (cell (left row) place) in
      let (other, among, passes) = contains_any apart (left_in db subject number table rows) shared in
      let both = and_parts (not (has_key table (key_of table (left row)) other)) (is_same_value (cell other place) (cell (left row) place)) passes in
      let from = contains_left_in db subject number table rows other among in
      let same = same_before row from.row place whole (subst (λ r. is_same_value (cell r place) (cell (left row) place) ≡ true) (sym from.left_is) both.1) in
      let differs = differs_before row from.row (subst (λ r. not (has_key table (key_of table (left row)) r) ≡ true) (sym from.left_is) both.0) in
      any_contained (λ other. not (has_key table (key_of table row) other) && is_same_value (cell other place) (cell row place)) rows from.row from.among (and_from _ _ differs same)

  pub unique-left : (row : Row) → unique_rule number table rows row ≡ [] → unique_rule number table (left_in db subject number table rows) (row_left db subject number table row) ≡ []
  unique-left row none =
      let left = row_left db subject number table row in
      let others = left_in db subject number table rows in
      pass_columns (breaks_unique table others left) _ left table (λ place column at.
      let before = columns_pass (breaks_unique table rows row) (λ held. Unique table.name (key_of table row) held.column.name) row table none place column at in
      false_from_ne_true _ (λ breaks.
      let parts = and_parts (column.unique && not (is_null (cell left place))) (is_shared table others (key_of table left) place (cell left place)) breaks in
      let whole = and_parts column.unique (not (is_null (cell left place))) parts.0 in
      let own = not-true (is_null (cell left place)) whole.1 in
      let shared = shared_before row place own parts.1 in
      let some : not (is_null (cell row place)) ≡ true = subst (λ v. not (is_null v) ≡ true) (held_before row place own) whole.1 in
      let broke : breaks_unique table rows row (column_value row place column) ≡ true = and_from _ _ (and_from _ _ whole.0 some) shared in
      let never : true ≡ false = sym broke ∙ before in
      cc))
