use Rattle.std.specs.Io.KnownBytes.{Keeps}
use Rattle.outer_world.proofs.stdin_source.read_unless_interrupted.Given as goal

-- the reads before this one took nothing
abbrev pub invariant-loop : goal.invariant-loop
invariant-loop g l = Keeps (g.R.Read.remaining l.initial.reader) (g.R.Read.remaining l.reader)
