use Rattle.own_model.specs.Stored.{rows_at}
use Rattle.state_model.specs.Fault.{unique_rule}
use Rattle.commit_check.proofs.FirstLemmas.{NoneBefore}
use Rattle.commit_check.proofs.unique.first_in_table.Given as goal

-- the rows so far are in order
abbrev pub invariant-loop-at : goal.invariant-loop-at
invariant-loop-at g l =
    let rows = rows_at (g.V.StoreView.db l.view).rows l.table.0 in NoneBefore (unique_rule l.table.0 l.definition rows) rows l.at
