use Rattle.std.proofs.Common.{arith}
use Rattle.shelf_erase.proofs.Steps.{run_within, so_far-end, so_far-more}
use Rattle.shelf_erase.proofs.lists.seen_of.Goals as goal

-- the end of a run is no farther than the number of all, which fits
pub overflow_add-at : goal.overflow_add-at
overflow_add-at g c =
    omega (arith, run_within (λ filed. filed.1) _ c.seen_count-count.result c.loop-at.at c.loop-at.list c.add_rights.new.items c.seen_from-run.result.now c.loop-at.invariant c.seen_from-run.ensures c.in_ok-add_rights.ensures)

pub loop-at-preserved : goal.loop-at-preserved
loop-at-preserved g c =
    so_far-more (λ filed. filed.1) _ c.seen_count-count.result c.loop-at.at c.loop-at.list c.add_rights.new.items c.seen_from-run.result.now c.loop-at.invariant c.seen_from-run.ensures c.in_ok-add_rights.ensures

pub returns : goal.returns
returns g c = so_far-end _ c.seen_count-count.result c.loop-at.at c.loop-at.list c.loop-at.invariant c.loop-at-test.false
