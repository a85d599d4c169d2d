use Rattle.std.proofs.Common.{◌≤◌, ◌-◌, length}
use Rattle.outer_world.proofs.file_disk.write_whole.Given as goal

-- no more bytes were taken than there are
abbrev pub invariant-loop-taken : goal.invariant-loop-taken
invariant-loop-taken l = l.taken ≤ length l.bytes

-- the bytes that are still to be written
abbrev pub decreases-loop-taken : goal.decreases-loop-taken
decreases-loop-taken l = length l.bytes - l.taken
