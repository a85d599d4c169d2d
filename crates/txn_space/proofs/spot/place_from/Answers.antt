use Rattle.std.proofs.Common.{◌<◌, ◌-◌, ◌+◌, ◌/◌, arith}
use Rattle.std.proofs.lemmas.Bool.Decides.{nat_tests}
use Rattle.own_model.specs.Stored.{rows_at}
use Rattle.txn_space.proofs.PlaceSteps.{search_ends, search_goes_down, search_goes_up}
use Rattle.txn_space.proofs.spot.place_from.Goals as goal

pub loop-low-preserved-then-is_below : goal.loop-low-preserved-then-is_below
loop-low-preserved-then-is_below g c =
    let some : c.loop-low.low < c.loop-low.high = grind (arith, nat_tests) in
    search_goes_up c.args.definition.now c.args.key.now (rows_at (g.V.StoreView.db c.args.base.now).rows c.args.table.0) c.args.from c.loop-low.low c.loop-low.high (c.loop-low.low + (c.loop-low.high - c.loop-low.low) / 2) c.is_below.result
    c.requires.rising c.loop-low.invariant (omega arith) (omega arith) c.is_below.ensures c.if-is_below.true

pub loop-low-preserved : goal.loop-low-preserved
loop-low-preserved g c =
    let some : c.loop-low.low < c.loop-low.high = grind (arith, nat_tests) in
    search_goes_down c.args.definition.now c.args.key.now (rows_at (g.V.StoreView.db c.args.base.now).rows c.args.table.0) c.args.from c.loop-low.low c.loop-low.high (c.loop-low.low + (c.loop-low.high - c.loop-low.low) / 2) c.is_below.result
    c.requires.rising c.loop-low.invariant (omega arith) (omega arith) c.is_below.ensures c.if-is_below.false

pub returns-clause-place : goal.returns-clause-place
returns-clause-place g c =
    search_ends c.args.definition.now c.args.key.now (rows_at (g.V.StoreView.db c.args.base.now).rows c.args.table.0) c.args.from c.loop-low.low c.loop-low.high c.loop-low.invariant (grind (arith, nat_tests))
