use Rattle.std.proofs.Common.{◌≡◌, take}
use Rattle.own_model.proofs.bound.+condition.Given as goal

-- the parts so far are copied
abbrev pub invariant-copied_parts-loop-part : goal.invariant-copied_parts-loop-part
invariant-copied_parts-loop-part l = l.copied ≡ take l.part-index l.parts
