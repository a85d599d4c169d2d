use Rattle.std.proofs.Common.{map, take}
use Rattle.std.specs.List.{filter}
use Rattle.std.specs.Option.{option_copied}
use Rattle.own_model.specs.Stored.{rows_at}
use Rattle.query_model.specs.Query.{joined}
use Rattle.query_model.specs.Truth.{keeps}
use Rattle.query_eval.specs.Enough.{IsEnough}
use Rattle.query_eval.proofs.looked_up.kept_of_lefts.Given as goal

-- the pairs of the rows so far are kept, or enough of them
abbrev pub invariant-loop-left : goal.invariant-loop-left
invariant-loop-left g l =
    IsEnough l.most (filter (keeps (option_copied l.cond)) (joined l.tables.left_column.0 l.tables.right_column.0 (map (λ row. row.now) (take l.left-index l.left-items)) (rows_at (g.V.StoreView.db l.view).rows l.tables.right.0))) l.kept
