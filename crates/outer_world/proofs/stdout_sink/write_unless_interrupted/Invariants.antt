use Rattle.std.specs.Io.KnownBytes.{Keeps}
use Rattle.outer_world.proofs.stdout_sink.write_unless_interrupted.Given as goal

-- the writes before this one wrote nothing
abbrev pub invariant-loop : goal.invariant-loop
invariant-loop g l = Keeps (g.W.Write.contents l.initial.writer) (g.W.Write.contents l.writer)
