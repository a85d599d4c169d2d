use Rattle.std.proofs.Common.{arith}
use Rattle.own_base.specs.Key.{key_cmp}
use Rattle.ordered_pairs.specs.RightsOf.{rights_of}
use Rattle.view_deltas.proofs.KeyRuns.{keys-end, keys-more, run_within}
use Rattle.view_deltas.proofs.keys.keys_of.Goals as goal

-- the end of a run is no farther than the number of keys, which fits
pub overflow_add-at : goal.overflow_add-at
overflow_add-at c =
    omega (arith, run_within (rights_of key_cmp c.args.pairs.now c.args.value.now) c.count-count.result c.loop-at.at c.loop-at.keys c.add_keys.new.keys c.run_from-run.result.now c.loop-at.invariant c.run_from-run.ensures.run c.in_ok-add_keys.ensures)

pub loop-at-preserved : goal.loop-at-preserved
loop-at-preserved c =
    keys-more (rights_of key_cmp c.args.pairs.now c.args.value.now) c.count-count.result c.loop-at.at c.loop-at.keys c.add_keys.new.keys c.run_from-run.result.now c.loop-at.invariant c.run_from-run.ensures.run c.in_ok-add_keys.ensures

pub returns : goal.returns
returns c = keys-end (rights_of key_cmp c.args.pairs.now c.args.value.now) c.count-count.result c.loop-at.at c.loop-at.keys c.loop-at.invariant c.loop-at-test.false
