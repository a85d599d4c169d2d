use Rattle.std.proofs.Common.{◌≡◌, map, take}
use Rattle.query_model.specs.Query.{shown_item}
use Rattle.query_eval.proofs.shown.shown_row.Given as goal

-- the items so far are shown
abbrev pub invariant-loop-item : goal.invariant-loop-item
invariant-loop-item l = l.shown ≡ map (shown_item l.row) (take l.item-index l.items)
