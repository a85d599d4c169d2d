use Rattle.own_model.specs.Db.{Row}
use Rattle.query_model.specs.Order.{precedes}
use Rattle.query_model.specs.Truth.{cell}
use Rattle.query_model.proofs.RowOrder.{column_order}
use Rattle.query_model.proofs.SortedRows.{sorted_in_order}
use Rattle.query_model.proofs.laws.ordered_rows_are_in_order.Goals as goal

pub returns : goal.returns
returns c column down rows = sorted_in_order (λ (left right : Row). precedes down (cell left column) (cell right column)) (column_order column down) rows
