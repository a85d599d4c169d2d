use Rattle.std.proofs.Common.{◌≡◌, map, take}
use Rattle.view_deltas.specs.Tally.{shown_item, side_value}
use Rattle.view_deltas.proofs.group_tally.GroupTally.shown.Given as goal

abbrev pub invariant-loop-item : goal.invariant-loop-item
invariant-loop-item l = l.shown ≡ map (shown_item (side_value l.side) l.self.rows) (take l.item-index l.item-items)
