-- What is kept for each value of a column, with one row more.
use Rattle.std.proofs.Common.{◌≡◌, ℕ, List, [], ◌∷◌, ◌++◌, None, Some, unwrap_or, sym, ap, ◌∙◌}
use Rattle.std.specs.BTreeMap.{insert_entry, is_at}
use Rattle.std.specs.List.Sorted.{IsStrictlySortedBy}
use Rattle.std.specs.Map.{keys_of, lookup, set_value}
use Rattle.std.specs.Option.{is_some}
use Rattle.own_base.specs.declared.value.Value.{Value}
use Rattle.own_model.specs.Db.{Row}
use Rattle.query_model.specs.Order.{value_cmp}
use Rattle.query_model.specs.Query.{group_of}
use Rattle.query_model.specs.Truth.{cell}
use Rattle.query_eval.specs.ByValue.{by_value}
use Rattle.query_eval.proofs.RowGroups.{insert-by_value, lookup-by_value}
use Rattle.query_eval.proofs.OrderedEntries.{set_value-is_insert_entry}

module _ {X : Type 0} (keep : List Row → X) (column : ℕ) (rows : List Row) (entries : List (Value × X)) (is : entries ≡ by_value keep column rows) where
  -- what is found for a value is what is kept of its rows
  pub found-kept : (value : Value) (found : X) → Some found ≡ lookup (is_at (value_cmp value)) entries → found ≡ keep (group_of column rows value)
  found-kept value found there =
      ap (λ o. unwrap_or o (keep [])) (there ∙ ap (lookup (is_at (value_cmp value))) is) ∙ lookup-by_value keep column rows value

  -- where nothing is found, no row has the value
  none-kept : (value : Value) → lookup (is_at (value_cmp value)) entries ≡ None → keep [] ≡ keep (group_of column rows value)
  none-kept value none =
      ap (λ o. unwrap_or o (keep [])) (sym none ∙ ap (lookup (is_at (value_cmp value))) is) ∙ lookup-by_value keep column rows value

  module _ (next : Row → X → X) (step : (rows : List Row) (row : Row) → next row (keep rows) ≡ keep (rows ++ row ∷ [])) where
    -- put for a row's value, what is kept with the row makes the entries those of one row more
    put-kept : (row : Row) (kept : X) → kept ≡ next row (keep (group_of column rows (cell row column)))
        → insert_entry value_cmp entries (cell row column) kept ≡ by_value keep column (rows ++ row ∷ [])
    put-kept row kept so = rw (is, so, step (group_of column rows (cell row column)) row) (insert-by_value keep column rows row)

    -- a value that is there
    pub found-next : (row : Row) (value : Value) (found kept : X) → value ≡ cell row column → IsStrictlySortedBy value_cmp (keys_of entries)
        → Some found ≡ lookup (is_at (value_cmp value)) entries → kept ≡ next row found
        → set_value (is_at (value_cmp value)) entries kept ≡ by_value keep column (rows ++ row ∷ [])
    found-next row value found kept of sorted there so =
        set_value-is_insert_entry value entries kept sorted (ap is_some (sym there))
        ∙ ap (λ value. insert_entry value_cmp entries value kept) of
        ∙ put-kept row kept (so ∙ ap (next row) (found-kept value found there ∙ ap (λ value. keep (group_of column rows value)) of))

    -- a new value
    pub new-next : (row : Row) (value : Value) (start kept : X) → value ≡ cell row column → lookup (is_at (value_cmp value)) entries ≡ None
        → start ≡ keep [] → kept ≡ next row start → insert_entry value_cmp entries value kept ≡ by_value keep column (rows ++ row ∷ [])
    new-next row value start kept of none first so =
        ap (λ value. insert_entry value_cmp entries value kept) of
        ∙ put-kept row kept (so ∙ ap (next row) (first ∙ none-kept value none ∙ ap (λ value. keep (group_of column rows value)) of))
