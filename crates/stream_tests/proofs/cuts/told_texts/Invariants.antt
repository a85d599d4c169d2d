use Rattle.std.proofs.Common.{length}
use Rattle.call_stream.specs.Taken.{IsSound, pending}
use Rattle.stream_tests.proofs.cuts.told_texts.Given as goal

abbrev pub invariant-loop-shown : goal.invariant-loop-shown
invariant-loop-shown g l = IsSound l.stream

abbrev pub decreases-loop-shown : goal.decreases-loop-shown
decreases-loop-shown g l = length (pending l.stream)
