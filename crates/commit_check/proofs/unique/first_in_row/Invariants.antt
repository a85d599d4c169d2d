use Rattle.own_model.specs.declared.refusal.Refusal.TheVariants.{Unique}
use Rattle.own_model.specs.Db.{key_of}
use Rattle.own_model.specs.Stored.{rows_at}
use Rattle.state_model.specs.Fault.{breaks_unique, column_values}
use Rattle.state_model.proofs.FaultLemmas.{refused}
use Rattle.commit_check.proofs.FirstLemmas.{NoneBefore}
use Rattle.commit_check.proofs.unique.first_in_row.Given as goal

-- the columns so far are in order
abbrev pub invariant-loop-at : goal.invariant-loop-at
invariant-loop-at g l =
    NoneBefore (refused (breaks_unique l.definition (rows_at (g.V.StoreView.db l.view).rows l.fn.table.0) l.row) (λ held. Unique l.definition.name (key_of l.definition l.row) held.column.name))
    (column_values l.definition l.row) l.at
