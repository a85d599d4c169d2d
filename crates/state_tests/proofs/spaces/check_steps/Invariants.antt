use Rattle.txn_space.specs.Sound.{IsSpaceOf}
use Rattle.state_tests.proofs.spaces.check_steps.Given as goal

-- the changes are of the base's tables
abbrev pub invariant-loop-step : goal.invariant-loop-step
invariant-loop-step g l = IsSpaceOf l.base.schema.tables l.space
