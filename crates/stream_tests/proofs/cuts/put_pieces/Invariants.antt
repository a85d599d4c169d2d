use Rattle.call_stream.specs.Taken.{IsRead, IsSound}
use Rattle.stream_tests.proofs.cuts.put_pieces.Given as goal

abbrev pub invariant-loop-piece : goal.invariant-loop-piece
invariant-loop-piece g l = IsSound l.stream × IsRead l.stream
