use Rattle.std.specs.Prelude.{IsTrue}
use Rattle.own_base.specs.declared.row_name.RowName.{RowName}
use Rattle.schema_model.specs.Tables.{is_subject}
use Rattle.subject_model.specs.Owners.{owns}
use Rattle.subject_model.specs.Stays.{stays}
use Rattle.subject_erase.specs.Flags.{AreFlagsOf}
use Rattle.subject_erase.specs.Staying.{is_claimed}
use Rattle.subject_erase.proofs.TableFlags.{TablesFlagged}
use Rattle.subject_erase.proofs.staying.staying_given.Given as goal

-- the tables before the number have their flags
abbrev pub invariant-loop-number : goal.invariant-loop-number
invariant-loop-number g l =
    let db = g.V.StoreView.db l.view in
    (subject : RowName) → IsTrue (is_subject db.schema subject.table.0) → AreFlagsOf db (owns db subject) l.owned → AreFlagsOf db (is_claimed db subject) l.claimed → TablesFlagged db (stays db subject) l.number l.staying
