use Rattle.std.proofs.Common.{length, ◌-◌, ◌≡◌}
use Rattle.call_stream.specs.Scans.{IsScanned}
use Rattle.call_stream.proofs.scan.Scan.go_on.Given as goal

abbrev pub invariant-loop-self : goal.invariant-loop-self
invariant-loop-self l = IsScanned l.bytes l.self × (l.self.begins ≡ l.initial.self.begins)

abbrev pub decreases-loop-self : goal.decreases-loop-self
decreases-loop-self l = length l.bytes - l.self.at
