use Rattle.std.proofs.Common.{[], ◌∷◌, ◌++◌, append_assoc}
use Rattle.std.specs.Option.{option_copied, option_to_list}
use Rattle.own_model.specs.Stored.{rows_at}
use Rattle.query_model.specs.Truth.{keeps}
use Rattle.query_eval.specs.TableRows.{rows_left}
use Rattle.query_eval.proofs.JoinedRows.{kept-more, next-stored}
use Rattle.query_eval.proofs.TableRows.{stored_at, stored_cell}
use Rattle.query_eval.proofs.pairs.kept_by_key.Goals as goal

-- A row of the left table holds no sums.
pub met_row-requires-clause-stored : goal.met_row-requires-clause-stored
met_row-requires-clause-stored g c =
    let stored = stored_at (g.V.StoreView.db c.args.view.now).rows c.args.tables.left.0 c.requires.tables.stored in
    let whole = rw c.in-Some.ensures.steps at c.loop-left.invariant.1 in
    let rest = rows_left c.next.new.self.run.now c.next.new.self.behind (rows_at (g.V.StoreView.db c.next.new.self.view.now).rows c.next.new.self.table.0) in
    let lefts = rows_at (g.V.StoreView.db c.args.view.now).rows c.args.tables.left.0 in
    rw (c.cell-value.ensures) (stored_cell c.args.tables.left_column.0 c.in-Some.left.now (next-stored c.loop-left.invariant.0 c.in-Some.left.now rest lefts whole stored))

-- A row more is gone through, with the row that it meets.
pub loop-left-preserved : goal.loop-left-preserved
loop-left-preserved g c =
    let gone = c.loop-left.invariant in
    let rights = rows_at (g.V.StoreView.db c.args.view.now).rows c.args.tables.right.0 in
    let met = rw c.cell-value.ensures at c.in_ok-right.ensures in (
      gone.0 ++ c.in-Some.left.now ∷ [],
      rw (append_assoc, ← c.in-Some.ensures.steps) gone.1,
      kept-more (keeps (option_copied c.args.cond)) c.args.tables.left_column.0 c.args.tables.right_column.0 gone.0 rights c.in-Some.left.now c.loop-left.kept (option_to_list (option_copied c.in_ok-right.right)) c.keep_pair.new.kept gone.2 met c.in_ok-keep_pair.ensures,
      c.next_met.ensures.others c.args.tables.right_column.0 rights gone.3,
    )

-- The next row that was looked up is met.
pub met_row-requires-clause-met : goal.met_row-requires-clause-met
met_row-requires-clause-met g c = c.next_met.ensures.next c.args.tables.right_column.0 (rows_at (g.V.StoreView.db c.args.view.now).rows c.args.tables.right.0) c.loop-left.invariant.3
