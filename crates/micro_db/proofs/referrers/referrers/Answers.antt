use Rattle.std.proofs.Common.{arith}
use Rattle.owner_index.proofs.RunLemmas.{names-end, names-more, run_within}
use Rattle.micro_db.proofs.referrers.referrers.Goals as goal

-- the end of a run is no farther than the number of keys, which fits
pub overflow_add-at : goal.overflow_add-at
overflow_add-at g c =
    omega (arith, run_within c.args.table _ c.holder_count-count.result c.loop-at.at c.loop-at.names c.add_names.new.names c.holders_from-run.result.now c.loop-at.invariant c.holders_from-run.ensures c.in_ok-add_names.ensures)

pub loop-at-preserved : goal.loop-at-preserved
loop-at-preserved g c =
    names-more c.args.table _ c.holder_count-count.result c.loop-at.at c.loop-at.names c.add_names.new.names c.holders_from-run.result.now c.loop-at.invariant c.holders_from-run.ensures c.in_ok-add_names.ensures

pub returns : goal.returns
returns g c = names-end c.args.table _ c.holder_count-count.result c.loop-at.at c.loop-at.names c.loop-at.invariant c.loop-at-test.false
