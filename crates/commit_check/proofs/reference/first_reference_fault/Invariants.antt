use Rattle.state_model.specs.Fault.{reference_rule}
use Rattle.commit_check.proofs.FirstLemmas.{NoneBeforeTable}
use Rattle.commit_check.proofs.reference.first_reference_fault.Given as goal

-- the tables so far are in order
abbrev pub invariant-loop-number : goal.invariant-loop-number
invariant-loop-number g l =
    let db = g.V.StoreView.db l.view in NoneBeforeTable (reference_rule db) db l.number
