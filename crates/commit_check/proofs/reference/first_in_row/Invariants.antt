use Rattle.own_model.specs.declared.refusal.Refusal.TheVariants.{Reference}
use Rattle.own_model.specs.Db.{key_of}
use Rattle.state_model.specs.Fault.{breaks_reference, column_values}
use Rattle.state_model.proofs.FaultLemmas.{refused}
use Rattle.commit_check.proofs.FirstLemmas.{NoneBefore}
use Rattle.commit_check.proofs.reference.first_in_row.Given as goal

-- the columns so far are in order
abbrev pub invariant-loop-at : goal.invariant-loop-at
invariant-loop-at g l =
    NoneBefore (refused (breaks_reference (g.V.StoreView.db l.view)) (λ held. Reference l.definition.name (key_of l.definition l.row) held.column.name))
    (column_values l.definition l.row) l.at
