use Rattle.state_tests.specs.Ready.{AreReady}
use Rattle.state_tests.proofs.looks.check_cases.Given as goal

-- each transaction may run another statement
abbrev pub invariant-loop-case : goal.invariant-loop-case
invariant-loop-case g l = AreReady l.version l.txns
