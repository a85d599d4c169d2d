use Rattle.std.proofs.Common.{◌≡◌, ◌++◌, List}
use Rattle.std.specs.List.{AllByRecursion, filter}
use Rattle.std.specs.Option.{option_copied}
use Rattle.own_model.specs.Db.{Row}
use Rattle.own_model.specs.Stored.{rows_at}
use Rattle.query_model.specs.Query.{joined}
use Rattle.query_model.specs.Truth.{keeps}
use Rattle.query_eval.specs.Met.{IsMet}
use Rattle.query_eval.specs.TableRows.{rows_left}
use Rattle.query_eval.proofs.pairs.kept_by_key.Given as goal

-- some rows of the left table are gone through, and their pairs are kept; what is left of the rows looked up is met
abbrev pub invariant-loop-left : goal.invariant-loop-left
invariant-loop-left g l =
    (gone : List Row)
    × (gone ++ rows_left l.left-iterator.run.now l.left-iterator.behind (rows_at (g.V.StoreView.db l.left-iterator.view.now).rows l.left-iterator.table.0) ≡ rows_at (g.V.StoreView.db l.fn.view).rows l.fn.tables.left.0)
    × (l.kept ≡ filter (keeps (option_copied l.fn.cond)) (joined l.fn.tables.left_column.0 l.fn.tables.right_column.0 gone (rows_at (g.V.StoreView.db l.fn.view).rows l.fn.tables.right.0)))
    × (AllByRecursion (IsMet l.fn.tables.right_column.0 (rows_at (g.V.StoreView.db l.fn.view).rows l.fn.tables.right.0)) l.met.items)
