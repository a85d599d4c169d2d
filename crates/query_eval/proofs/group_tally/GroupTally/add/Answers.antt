use Rattle.std.proofs.Common.{arith}
use Rattle.std.proofs.lemmas.List.Edits.{map_over_more}
use Rattle.query_eval.specs.Tally.{with_row}
use Rattle.query_eval.proofs.group_tally.GroupTally.add.Goals as goal

pub loop-item-preserved : goal.loop-item-preserved
loop-item-preserved c =
    rw (c.add.ensures, ← c.item-item.is)
    (map_over_more (with_row c.args.row.now) c.deref_mut-item-items.result.now c.loop-item.item-items c.loop-item.item-index c.item-item.result (omega arith) c.loop-item.invariant c.item-item.is)
