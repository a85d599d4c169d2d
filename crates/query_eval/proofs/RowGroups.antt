-- The groups of some rows, and of one row more.
use Rattle.std.proofs.Common.{◌≡◌, ℕ, Bool, true, false, ◌||◌, cond, List, [], ◌∷◌, ◌++◌, None, Some, unwrap_or, refl, sym, ap, ◌∙◌, append-nil}
use Rattle.std.specs.declared.cmp.Ordering.{Ordering}
use Rattle.std.specs.declared.cmp.Ordering.TheVariants.{Less, Equal, Greater}
use Rattle.std.specs.Ordering.{ordering_reverse}
use Rattle.std.specs.List.{filter, fold, list_any}
use Rattle.std.specs.List.Sorted.{IsStrictlySortedBy}
use Rattle.std.specs.Map.{lookup}
use Rattle.std.specs.BTreeMap.{insert_entry, is_at}
use Rattle.std.proofs.lemmas.List.Elements.{filter-append, filter_agree}
use Rattle.std.proofs.lemmas.List.Sums.{fold-append}
use Rattle.std.proofs.lemmas.Cmp.{alike_right, tied_itself}
use Rattle.own_base.specs.declared.value.Value.{Value}
use Rattle.own_model.specs.Db.{Row}
use Rattle.own_model.specs.Stored.{is_equal}
use Rattle.query_model.specs.Order.{value_cmp}
use Rattle.query_model.specs.Query.{group_of, values_of, with_value}
use Rattle.query_model.specs.Truth.{cell}
use Rattle.query_model.proofs.ValueOrder.{value_order}
use Rattle.query_eval.specs.ByValue.{by_value}
use Rattle.query_eval.proofs.OrderedEntries.{entries_of, has_value, has-with_value, insert-entries_of, lookup-entries_of, sorted-with_value}

-- the values of one row more
pub values_of-push : (column : ℕ) (rows : List Row) (row : Row) → values_of column (rows ++ row ∷ []) ≡ with_value (cell row column) (values_of column rows)
values_of-push column rows row = fold-append (λ values row. with_value (cell row column) values) [] rows (row ∷ [])

-- the groups of one row more
pub group_of-push : (column : ℕ) (rows : List Row) (row : Row) (value : Value)
    → group_of column (rows ++ row ∷ []) value ≡ group_of column rows value ++ cond (is_equal (value_cmp (cell row column) value)) (row ∷ []) []
group_of-push column rows row value = filter-append _ rows (row ∷ [])

-- equal values have one group
pub group_of-equal : (column : ℕ) (rows : List Row) (value other : Value) → value_cmp value other ≡ Equal → group_of column rows value ≡ group_of column rows other
group_of-equal column rows value other equal = filter_agree _ _ (λ row. ap is_equal (alike_right value_order value other (cell row column) equal)) rows

-- a row's group has the row last
group_of-joined : (column : ℕ) (rows : List Row) (row : Row) (value : Value) → value_cmp (cell row column) value ≡ Equal
    → group_of column rows (cell row column) ++ row ∷ [] ≡ group_of column (rows ++ row ∷ []) value
group_of-joined column rows row value equal =
    let same : group_of column rows (cell row column) ≡ group_of column rows value = group_of-equal column rows (cell row column) value equal in
    rw (group_of-push, equal, same) refl

-- the other groups stay
group_of-apart : (column : ℕ) (rows : List Row) (row : Row) (value : Value) → is_equal (value_cmp (cell row column) value) ≡ false
    → group_of column rows value ≡ group_of column (rows ++ row ∷ []) value
group_of-apart column rows row value apart = rw (group_of-push, apart) (sym (append-nil (group_of column rows value)))

sorted-values : (column : ℕ) (values : List Value) (rows : List Row) → IsStrictlySortedBy value_cmp values
    → IsStrictlySortedBy value_cmp (fold (λ values row. with_value (cell row column) values) values rows)
sorted-values column values [] sorted = sorted
sorted-values column values (row ∷ rows) sorted = sorted-values column (with_value (cell row column) values) rows (sorted-with_value (cell row column) values sorted)

-- the values of a column rise
pub sorted-values_of : (column : ℕ) (rows : List Row) → IsStrictlySortedBy value_cmp (values_of column rows)
unfolding IsStrictlySortedBy
sorted-values_of column rows = sorted-values column [] rows tt

turned : (o : Ordering) → is_equal (ordering_reverse o) ≡ is_equal o
turned Less = refl
turned Equal = refl
turned Greater = refl

-- values equal each other
pub is_equal-back : (value other : Value) → is_equal (value_cmp value other) ≡ is_equal (value_cmp other value)
is_equal-back value other = ap is_equal (value_order.antisymm value other) ∙ turned (value_cmp other value)

regrouped : (a b d : Bool) → (a || (b || d)) ≡ ((b || a) || d)
regrouped true true d = refl
regrouped true false d = refl
regrouped false true d = refl
regrouped false false d = refl

has-values : (column : ℕ) (value : Value) (values : List Value) (rows : List Row)
    → has_value value (fold (λ values row. with_value (cell row column) values) values rows)
    ≡ (list_any (λ row. is_equal (value_cmp (cell row column) value)) rows || has_value value values)
has-values column value values [] = refl
has-values column value values (row ∷ rows) =
    has-values column value (with_value (cell row column) values) rows
    ∙ ap (λ b. list_any (λ row. is_equal (value_cmp (cell row column) value)) rows || b) (has-with_value value (cell row column) values)
    ∙ rw (is_equal-back value (cell row column)) (regrouped (list_any (λ row. is_equal (value_cmp (cell row column) value)) rows) (is_equal (value_cmp (cell row column) value)) (has_value value values))

none_of_first : {X : Type 0} (b : Bool) (first : X) (any : Bool) (passing : List X) → (b || any) ≡ false → (any ≡ false → passing ≡ []) → cond b (first ∷ passing) passing ≡ []
none_of_first true first any passing none hence = cc
none_of_first false first any passing none hence = hence none

-- where none passes, none is kept
none_passes : {X : Type 0} (test : X → Bool) (items : List X) → list_any test items ≡ false → filter test items ≡ []
none_passes test [] none = refl
none_passes test (first ∷ rest) none = none_of_first (test first) first (list_any test rest) (filter test rest) none (none_passes test rest)

or_false : (b : Bool) → (b || false) ≡ b
or_false true = refl
or_false false = refl

module _ {X : Type 0} where
  found : (b : Bool) (keep : List Row → X) (column : ℕ) (rows : List Row) (value : Value) → list_any (λ row. is_equal (value_cmp (cell row column) value)) rows ≡ b
      → unwrap_or (cond b (Some (keep (group_of column rows value))) None) (keep []) ≡ keep (group_of column rows value)
  found true keep column rows value is = refl
  found false keep column rows value is = ap keep (sym (none_passes _ rows is))

  -- what is kept for a value is found; for none it is what is kept of no rows
  pub lookup-by_value : (keep : List Row → X) (column : ℕ) (rows : List Row) (value : Value)
      → unwrap_or (lookup (is_at (value_cmp value)) (by_value keep column rows)) (keep []) ≡ keep (group_of column rows value)
  lookup-by_value keep column rows value =
      rw (lookup-entries_of (λ value. keep (group_of column rows value)) value (values_of column rows) (λ other equal. ap keep (group_of-equal column rows value other equal)))
      (found (has_value value (values_of column rows)) keep column rows value (sym (or_false _) ∙ sym (has-values column value [] rows)))

  -- what is kept with one row more
  pub insert-by_value : (keep : List Row → X) (column : ℕ) (rows : List Row) (row : Row)
      → insert_entry value_cmp (by_value keep column rows) (cell row column) (keep (group_of column rows (cell row column) ++ row ∷ [])) ≡ by_value keep column (rows ++ row ∷ [])
  insert-by_value keep column rows row =
      let before : Value → X = λ value. keep (group_of column rows value) in
      let after : Value → X = λ value. keep (group_of column (rows ++ row ∷ []) value) in
      ap (insert_entry value_cmp (by_value keep column rows) (cell row column)) (ap keep (group_of-joined column rows row (cell row column) (tied_itself value_order (cell row column))))
      ∙ insert-entries_of before after (cell row column) (values_of column rows) (λ other apart. ap keep (group_of-apart column rows row other apart))
      (λ other equal. ap keep (group_of-equal column (rows ++ row ∷ []) (cell row column) other equal)) (sorted-values_of column rows)
      ∙ ap (entries_of after) (sym (values_of-push column rows row))
