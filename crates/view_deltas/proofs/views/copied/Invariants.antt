use Rattle.std.proofs.Common.{◌≡◌, take}
use Rattle.view_deltas.proofs.views.copied.Given as goal

abbrev pub invariant-loop-one : goal.invariant-loop-one
invariant-loop-one l = l.copy.items ≡ take l.one-index l.kept
