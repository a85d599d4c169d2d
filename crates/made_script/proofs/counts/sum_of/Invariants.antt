use Rattle.std.proofs.Common.{◌≡◌, take}
use Rattle.made_model.specs.Summary.{sum_of}
use Rattle.made_script.proofs.counts.sum_of.Given as goal

abbrev pub invariant-loop-row : goal.invariant-loop-row
invariant-loop-row l = l.sum ≡ sum_of (take l.row-index l.rows)
