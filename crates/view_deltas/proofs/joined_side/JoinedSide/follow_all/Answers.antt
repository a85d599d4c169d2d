use Rattle.std.proofs.Common.{sym, subst}
use Rattle.view_deltas.specs.Changes.{after_changes}
use Rattle.view_deltas.specs.Joined.{KeepsSide}
use Rattle.view_deltas.specs.declared.joined_side.JoinedSide.{JoinedSide}
use Rattle.view_deltas.proofs.HalfwayLemmas.{begins, ends, goes_on}
use Rattle.view_deltas.proofs.joined_side.JoinedSide.follow_all.Goals as goal

-- All changes are left.
pub loop-change-init : goal.loop-change-init
loop-change-init g c = λ own other others stored keeps among rows are fit kept.
    begins (KeepsSide own other c.args.query.now c.args.on others) c.args.on.own.0 own c.args.changes.now c.in_ok-after.after rows are fit
    (subst (λ (side : JoinedSide). KeepsSide own other c.args.query.now c.args.on others rows side) (sym c.in_ok-after.ensures) kept)

-- One more is followed.
pub loop-change-preserved : goal.loop-change-preserved
loop-change-preserved g c = λ own other others stored keeps among rows are fit kept.
    goes_on (KeepsSide own other c.args.query.now c.args.on others) c.args.on.own.0 own c.args.changes.now c.loop-change.change-index c.change-item.result c.loop-change.after c.follow_one.new.self
    (after_changes c.args.on.own.0 own c.args.changes.now rows) c.loop-change-test.true c.change-item.is (c.in_ok-follow_one.ensures own other others stored keeps among)
    (c.loop-change.invariant own other others stored keeps among rows are fit kept)

-- None is left.
pub returns : goal.returns
returns g c = λ own other others stored keeps among rows are fit kept.
    ends (KeepsSide own other c.args.query.now c.args.on others) c.args.on.own.0 own c.args.changes.now c.loop-change.change-index c.loop-change.after (after_changes c.args.on.own.0 own c.args.changes.now rows)
    c.loop-change-test.false (c.loop-change.invariant own other others stored keeps among rows are fit kept)
