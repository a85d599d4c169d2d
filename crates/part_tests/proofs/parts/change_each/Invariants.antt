use Rattle.std.proofs.Common.{◌≡◌}
use Rattle.part_tests.specs.declared.made.TheConstants.{KEY}
use Rattle.part_tests.proofs.parts.change_each.Given as goal

-- the key column stays
abbrev pub invariant-loop-change : goal.invariant-loop-change
invariant-loop-change g l = l.part.key ≡ KEY
