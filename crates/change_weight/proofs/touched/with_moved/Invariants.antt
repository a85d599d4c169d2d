use Rattle.std.proofs.Common.{◌≡◌, ◌++◌, take}
use Rattle.change_weight.specs.Touched.{moved_names}
use Rattle.change_weight.proofs.touched.with_moved.Given as goal

-- the names so far stand behind those of the changes
abbrev pub invariant-loop-moved : goal.invariant-loop-moved
invariant-loop-moved l = l.names.items ≡ l.fn.changed.items ++ moved_names (take l.moved-index l.moves)
