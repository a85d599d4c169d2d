use Rattle.state_model.specs.Fault.{unique_rule}
use Rattle.commit_check.proofs.FirstLemmas.{NoneBeforeTable}
use Rattle.commit_check.proofs.unique.first_unique_fault.Given as goal

-- the tables so far are in order
abbrev pub invariant-loop-number : goal.invariant-loop-number
invariant-loop-number g l =
    let db = g.V.StoreView.db l.view in NoneBeforeTable unique_rule db l.number
