use Rattle.std.proofs.Common.{◌≡◌, ◌≤◌, ◌-◌, take, vec_len}
use Rattle.std.specs.Io.KnownBytes.{Consumes}
use Rattle.outer_world.proofs.reading.read_all.Given as goal

-- the bytes filled so far are those that were read, and the count of faults is as it was
abbrev pub invariant-loop-filled : goal.invariant-loop-filled
invariant-loop-filled g l = record {
  within : l.filled ≤ vec_len l.bytes;
  few : vec_len l.bytes ≤ l.most;
  read : Consumes (g.R.Source.remaining l.initial.source) (g.R.Source.remaining l.source) (take l.filled l.bytes.items);
  steady : g.R.Source.faults l.source ≡ g.R.Source.faults l.initial.source;
}

-- the bytes that are still wanted
abbrev pub decreases-loop-filled : goal.decreases-loop-filled
decreases-loop-filled g l = l.most - l.filled
