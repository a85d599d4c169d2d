use Rattle.std.proofs.Common.{◌<◌, ◌-◌, ◌+◌, ◌/◌, arith}
use Rattle.std.proofs.lemmas.Bool.Decides.{nat_tests}
use Rattle.own_model.specs.Stored.{rows_at}
use Rattle.query_eval.proofs.KeyPlaces.{search_goes_down, search_goes_up}
use Rattle.query_eval.proofs.key_range.place_of.Goals as goal

pub loop-low-preserved-then-is_before_at : goal.loop-low-preserved-then-is_before_at
loop-low-preserved-then-is_before_at g c =
    let some : c.loop-low.low < c.loop-low.high = grind (arith, nat_tests) in
    search_goes_up c.args.definition.now c.args.value.now c.args.behind (rows_at (g.V.StoreView.db c.args.view.now).rows c.args.table.0) c.requires.rising c.loop-low.low c.loop-low.high (c.loop-low.low + (c.loop-low.high - c.loop-low.low) / 2)
    c.is_before_at.result c.loop-low.invariant (omega arith) (omega arith) c.is_before_at.ensures c.if-is_before_at.true

pub loop-low-preserved : goal.loop-low-preserved
loop-low-preserved g c =
    let some : c.loop-low.low < c.loop-low.high = grind (arith, nat_tests) in
    search_goes_down c.args.definition.now c.args.value.now c.args.behind (rows_at (g.V.StoreView.db c.args.view.now).rows c.args.table.0) c.requires.rising c.loop-low.low c.loop-low.high (c.loop-low.low + (c.loop-low.high - c.loop-low.low) / 2)
    c.is_before_at.result c.loop-low.invariant (omega arith) (omega arith) c.is_before_at.ensures c.if-is_before_at.false
