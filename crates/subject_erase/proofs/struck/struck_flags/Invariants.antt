use Rattle.own_base.specs.declared.row_name.RowName.{RowName}
use Rattle.subject_model.specs.Owners.{owns}
use Rattle.subject_model.specs.Stays.{struck}
use Rattle.subject_erase.specs.Flags.{AreFlagsOf}
use Rattle.subject_erase.proofs.TableFlags.{TablesFlagged}
use Rattle.subject_erase.proofs.struck.struck_flags.Given as goal

-- the tables before the number have their flags
abbrev pub invariant-loop-number : goal.invariant-loop-number
invariant-loop-number g l =
    let db = g.V.StoreView.db l.view in
    (subject : RowName) → AreFlagsOf db (owns db subject) l.owned → TablesFlagged db (struck db subject) l.number l.struck
