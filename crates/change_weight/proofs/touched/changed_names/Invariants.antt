use Rattle.std.proofs.Common.{◌≡◌, take}
use Rattle.change_weight.specs.Touched.{changed_names}
use Rattle.change_weight.proofs.touched.changed_names.Given as goal

-- the names so far
abbrev pub invariant-loop-change : goal.invariant-loop-change
invariant-loop-change l = l.names.items ≡ changed_names (take l.change-index l.changes)
