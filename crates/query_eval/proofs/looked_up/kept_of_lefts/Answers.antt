use Rattle.std.proofs.Common.{List, ◌∙◌, subst, sym}
use Rattle.std.specs.List.{filter}
use Rattle.std.specs.Option.{option_copied}
use Rattle.own_model.specs.Db.{Row}
use Rattle.own_model.specs.Stored.{rows_at}
use Rattle.query_model.specs.Query.{joined}
use Rattle.query_model.specs.Stored.{AreStored}
use Rattle.query_model.specs.Truth.{keeps}
use Rattle.query_eval.specs.Enough.{IsEnough}
use Rattle.query_eval.proofs.JoinCandidates.{enough-more, enough_past, stored_item}
use Rattle.query_eval.proofs.looked_up.kept_of_lefts.Goals as goal

-- There are enough already.
pub returns-then-is_past : goal.returns-then-is_past
returns-then-is_past g c =
    let rights = rows_at (g.V.StoreView.db c.args.view.now).rows c.args.tables.right.0 in
    subst (λ (lefts : List Row). IsEnough c.args.most (filter (keeps (option_copied c.args.cond)) (joined c.args.tables.left_column.0 c.args.tables.right_column.0 lefts rights)) c.loop-left.kept) c.rows-left-items.ensures
    (enough_past (option_copied c.args.cond) c.args.tables.left_column.0 c.args.tables.right_column.0 rights c.args.most (λ row. row.now) c.rows-left-items.result.now c.loop-left.kept c.loop-left.left-index c.loop-left.invariant (sym c.is_past.ensures ∙ c.if-is_past.true))

-- A row of the left table holds no sums.
pub keep_partners-requires-clause-stored : goal.keep_partners-requires-clause-stored
keep_partners-requires-clause-stored g c =
    stored_item (λ row. row.now) c.rows-left-items.result.now c.loop-left.left-index c.left-item.result c.left-item.is c.loop-left-test.true (subst AreStored (sym c.rows-left-items.ensures) c.requires.stored)

-- The pairs of one row more.
pub loop-left-preserved : goal.loop-left-preserved
loop-left-preserved g c =
    enough-more (option_copied c.args.cond) c.args.tables.left_column.0 c.args.tables.right_column.0 (rows_at (g.V.StoreView.db c.args.view.now).rows c.args.tables.right.0) c.args.most (λ row. row.now) c.rows-left-items.result.now c.loop-left.kept c.loop-left.left-index
    c.loop-left.invariant c.left-item.result c.keep_partners.new.kept c.left-item.is c.loop-left-test.true (sym c.is_past.ensures ∙ c.if-is_past.false) c.in_ok-keep_partners.ensures
