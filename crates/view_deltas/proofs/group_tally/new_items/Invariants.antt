use Rattle.std.proofs.Common.{◌≡◌, [], map, take}
use Rattle.view_deltas.specs.Tally.{item_tally}
use Rattle.view_deltas.proofs.group_tally.new_items.Given as goal

abbrev pub invariant-loop-item : goal.invariant-loop-item
invariant-loop-item l = l.made ≡ map (item_tally []) (take l.item-index l.items)
