use Rattle.subject_model.specs.Owners.{owns}
use Rattle.subject_erase.proofs.TableFlags.{RowsFlagged}
use Rattle.subject_erase.proofs.owned.table_owned.Given as goal

-- the rows before the place have their flags
abbrev pub invariant-loop-at : goal.invariant-loop-at
invariant-loop-at g l =
    let db = g.V.StoreView.db l.view in RowsFlagged db (owns db l.subject.0) l.table.0 l.at l.owned
