use Rattle.subject_model.specs.Owners.{owns}
use Rattle.subject_erase.proofs.TableFlags.{TablesFlagged}
use Rattle.subject_erase.proofs.owned.owned_flags.Given as goal

-- the tables before the number have their flags
abbrev pub invariant-loop-number : goal.invariant-loop-number
invariant-loop-number g l =
    let db = g.V.StoreView.db l.view in TablesFlagged db (owns db l.subject.0) l.number l.owned
