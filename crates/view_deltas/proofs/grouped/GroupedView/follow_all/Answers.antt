use Rattle.std.proofs.Common.{sym, subst}
use Rattle.view_deltas.specs.Changes.{after_changes}
use Rattle.view_deltas.specs.Groups.{KeepsGroups}
use Rattle.view_deltas.specs.declared.grouped.GroupedView.{GroupedView}
use Rattle.view_deltas.proofs.HalfwayLemmas.{begins, ends, goes_on}
use Rattle.view_deltas.proofs.grouped.GroupedView.follow_all.Goals as goal

-- All changes are left.
pub loop-change-init : goal.loop-change-init
loop-change-init c = λ table rows are fit kept.
    begins (KeepsGroups c.args.query.now) c.args.number.0 table c.args.changes.now c.in_ok-after.after rows are fit
    (subst (λ (groups : GroupedView). KeepsGroups c.args.query.now rows groups) (sym c.in_ok-after.ensures) kept)

-- One more is followed.
pub loop-change-preserved : goal.loop-change-preserved
loop-change-preserved c = λ table rows are fit kept.
    goes_on (KeepsGroups c.args.query.now) c.args.number.0 table c.args.changes.now c.loop-change.change-index c.change-item.result c.loop-change.after c.follow_one.new.self
    (after_changes c.args.number.0 table c.args.changes.now rows) c.loop-change-test.true c.change-item.is (c.in_ok-follow_one.ensures table) (c.loop-change.invariant table rows are fit kept)

-- None is left.
pub returns : goal.returns
returns c = λ table rows are fit kept.
    ends (KeepsGroups c.args.query.now) c.args.number.0 table c.args.changes.now c.loop-change.change-index c.loop-change.after (after_changes c.args.number.0 table c.args.changes.now rows)
    c.loop-change-test.false (c.loop-change.invariant table rows are fit kept)
