use Rattle.std.proofs.Common.{◌≡◌, ◌≤◌, ◌-◌, length, take}
use Rattle.std.specs.Io.KnownBytes.{Appends}
use Rattle.outer_world.proofs.writing.write_all.Given as goal

-- the bytes taken so far are written, and the count of faults is as it was
abbrev pub invariant-loop-taken : goal.invariant-loop-taken
invariant-loop-taken g l = record {
  within : l.taken ≤ length l.bytes;
  written : Appends (g.W.Sink.written l.initial.sink) (g.W.Sink.written l.sink) (take l.taken l.bytes);
  steady : g.W.Sink.faults l.sink ≡ g.W.Sink.faults l.initial.sink;
}

-- the bytes that are still to be written
abbrev pub decreases-loop-taken : goal.decreases-loop-taken
decreases-loop-taken g l = length l.bytes - l.taken
