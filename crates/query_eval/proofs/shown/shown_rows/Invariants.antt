use Rattle.std.proofs.Common.{◌≡◌, map, take}
use Rattle.query_model.specs.Query.{projected}
use Rattle.query_eval.proofs.shown.shown_rows.Given as goal

-- the rows so far are shown
abbrev pub invariant-loop-row : goal.invariant-loop-row
invariant-loop-row l = l.shown ≡ map (projected l.items) (take l.row-index l.row-items)
