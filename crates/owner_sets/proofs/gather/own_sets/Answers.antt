use Rattle.std.proofs.Common.{arith}
use Rattle.std.proofs.lemmas.List.FromFn.{map-range_with_len_more}
use Rattle.owner_sets.specs.Gathered.{own_set}
use Rattle.owner_sets.proofs.gather.own_sets.Goals as goal

pub loop-at-preserved : goal.loop-at-preserved
loop-at-preserved g c =
    let own = own_set (g.V.StoreView.db c.args.view.now).schema (g.V.StoreView.db c.args.view.now).rows c.args.table.0 in
    rw (map-range_with_len_more own 0 c.loop-at.at c.loop-at.at (omega arith), ← c.loop-at.invariant, ← c.in_ok-own_set.ensures) c.in_ok-push.ensures.items
