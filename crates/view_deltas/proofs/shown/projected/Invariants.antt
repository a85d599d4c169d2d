use Rattle.std.proofs.Common.{◌≡◌, map, take}
use Rattle.query_model.specs.Query.{shown_item}
use Rattle.view_deltas.proofs.shown.projected.Given as goal

abbrev pub invariant-loop-item : goal.invariant-loop-item
invariant-loop-item l = l.shown ≡ map (shown_item l.row) (take l.item-index l.items)
