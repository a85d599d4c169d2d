use Rattle.std.proofs.Common.{◌≡◌, map, take}
use Rattle.view_deltas.specs.Tally.{item_with}
use Rattle.view_deltas.proofs.group_tally.items_with.Given as goal

abbrev pub invariant-loop-item : goal.invariant-loop-item
invariant-loop-item l = l.made ≡ map (item_with l.way l.row) (take l.item-index l.items)
