use Rattle.std.proofs.Common.{◌≡◌, take}
use Rattle.own_base.proofs.make_copy.ListMakeCopy.copy.Given as goal

-- the items so far are copied
abbrev pub invariant-loop-item : goal.invariant-loop-item
invariant-loop-item g l = l.copied ≡ take l.item-index l.item-items
