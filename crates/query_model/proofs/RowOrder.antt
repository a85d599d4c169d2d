-- The order of rows by a column.
use Rattle.std.proofs.Common.{◌≡◌, ℕ, List, Bool, true, false, length, refl}
use Rattle.std.specs.Prelude.{Option, None, Some}
use Rattle.std.specs.Cmp.{IsStrictWeakOrder}
use Rattle.std.proofs.lemmas.List.Sorted.{IsStrictWeakOrder-flip, ranks_by}
use Rattle.own_base.specs.declared.number.ColNo.{ColNo}
use Rattle.own_model.specs.Db.{Row}
use Rattle.query_model.specs.Order.{is_less, precedes, value_cmp}
use Rattle.query_model.specs.Query.{in_order}
use Rattle.query_model.specs.Truth.{cell}
use Rattle.query_model.proofs.SortedRows.{length-sorted}
use Rattle.query_model.proofs.ValueOrder.{value_order}

-- any two rows compare, rising or with DESC
pub column_order : (column : ℕ) (down : Bool) → IsStrictWeakOrder (λ (left right : Row). precedes down (cell left column) (cell right column))
column_order column false = ranks_by value_order (λ (row : Row). cell row column)
column_order column true = IsStrictWeakOrder-flip (λ (left right : Row). is_less (value_cmp (cell left column) (cell right column))) (ranks_by value_order (λ (row : Row). cell row column))

-- rows in the order of ORDER BY are as many
pub length-in_order : (order : Option (ColNo × Bool)) (rows : List Row) → length (in_order order rows) ≡ length rows
length-in_order None rows = refl
length-in_order (Some order) rows = length-sorted (λ left right. precedes order.1 (cell left order.0.0) (cell right order.0.0)) rows
