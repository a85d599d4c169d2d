use Rattle.std.proofs.Common.{length, ◌-◌}
use Rattle.sql_reader.proofs.Scripts.Scanning.{ScannedTo}
use Rattle.sql_reader.proofs.stretch.scan.Given as goal

abbrev pub invariant-loop-at : goal.invariant-loop-at
invariant-loop-at l = ScannedTo l.text l.from l.at l.begins l.start l.end

abbrev pub decreases-loop-at : goal.decreases-loop-at
decreases-loop-at l = length l.bytes - l.at
