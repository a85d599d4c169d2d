use Rattle.std.proofs.Common.{◌≡◌, take}
use Rattle.owner_index.specs.Gathered.{gathered}
use Rattle.owner_index.proofs.gather.gathered.Given as goal

-- what comes from the upper rows so far is gathered
abbrev pub invariant-loop-upper : goal.invariant-loop-upper
invariant-loop-upper l = l.set.items ≡ gathered l.which l.schema l.index l.name (take l.upper-index l.uppers)
