use Rattle.std.proofs.Common.{◌≡◌, map, take}
use Rattle.query_model.specs.Truth.{greatest, least, truth}
use Rattle.pred_eval.proofs.condition.+condition.Given as goal

-- the greatest of the parts so far
abbrev pub invariant-greatest-loop-part : goal.invariant-greatest-loop-part
invariant-greatest-loop-part l = l.greatest ≡ greatest (map (truth l.row) (take l.part-index l.parts))

-- the least of the parts so far
abbrev pub invariant-least-loop-part : goal.invariant-least-loop-part
invariant-least-loop-part l = l.least ≡ least (map (truth l.row) (take l.part-index l.parts))
