use Rattle.std.proofs.Common.{drop}
use Rattle.std.specs.Prelude.{◌↔◌}
use Rattle.commit_replay.specs.Fitting.{AreFit}
use Rattle.commit_replay.proofs.keyed_row.are_fit.Given as goal

-- all fit where those from the place on do
abbrev pub invariant-loop-number : goal.invariant-loop-number
invariant-loop-number l = AreFit (drop l.number l.columns) (drop l.number l.values) ↔ AreFit l.columns l.values
