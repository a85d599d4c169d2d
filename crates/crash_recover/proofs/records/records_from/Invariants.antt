use Rattle.std.proofs.Common.{◌≡◌, ◌+◌, ◌≤◌, length}
use Rattle.crash_recover.specs.Records.{AreRead}
use Rattle.crash_recover.proofs.records.records_from.Given as goal

abbrev pub invariant-loop-rest : goal.invariant-loop-rest
invariant-loop-rest l = record {
  are_read : AreRead l.fn.state l.gate l.bytes l.commits l.at l.rest l.state;
  some : 1 ≤ length l.rest;
  room : l.at + length l.rest ≡ l.gate + length l.bytes;
}

abbrev pub decreases-loop-rest : goal.decreases-loop-rest
decreases-loop-rest l = length l.rest
