use Rattle.std.proofs.Common.{List, sym, subst}
use Rattle.own_base.specs.declared.value.Key.{Key}
use Rattle.ref_index.specs.AfterChanges.{after_changes}
use Rattle.ref_index.specs.IndexOf.{IsIndexOf}
use Rattle.ref_index.proofs.HalfwayLemmas.{begins, ends, goes_on}
use Rattle.ref_index.proofs.column_index.followed.Goals as goal

-- All changes are left.
pub loop-change-init : goal.loop-change-init
loop-change-init c = λ rows fit index.
    begins c.args.table.0 c.args.column.0 c.args.changes.now c.in_ok-after.after rows fit (subst (λ (pairs : List (Key × Key)). IsIndexOf c.args.column.0 rows pairs) (sym c.in_ok-after.ensures) index)

-- One more is followed.
pub loop-change-preserved : goal.loop-change-preserved
loop-change-preserved c = λ rows fit index.
    goes_on c.args.table.0 c.args.column.0 c.args.changes.now c.loop-change.change-index c.change-item.result c.loop-change.after c.follow.new.pairs (after_changes c.args.table.0 c.args.changes.now rows)
    c.loop-change-test.true c.change-item.is c.in_ok-follow.ensures (c.loop-change.invariant rows fit index)

-- None is left.
pub returns : goal.returns
returns c = λ rows fit index.
    ends c.args.table.0 c.args.column.0 c.args.changes.now c.loop-change.change-index c.loop-change.after (after_changes c.args.table.0 c.args.changes.now rows) c.loop-change-test.false (c.loop-change.invariant rows fit index)
