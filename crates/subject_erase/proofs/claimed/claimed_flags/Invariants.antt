use Rattle.std.proofs.Common.{◌≡◌, length}
use Rattle.own_base.specs.declared.row_name.RowName.{RowName}
use Rattle.subject_model.specs.Owners.{owns}
use Rattle.subject_model.specs.Stays.{struck}
use Rattle.subject_erase.specs.Flags.{AreFlagsOf}
use Rattle.subject_erase.specs.Staying.{is_claimed}
use Rattle.subject_erase.proofs.ClaimedOrder.{OrderFlagged}
use Rattle.subject_erase.proofs.claimed.claimed_flags.Given as goal

-- the tables so far have their flags
abbrev pub invariant-loop-table : goal.invariant-loop-table
invariant-loop-table g l =
    let db = g.V.StoreView.db l.view in
    (length l.claimed.items ≡ length db.schema.tables)
    × ((subject : RowName) → AreFlagsOf db (owns db subject) l.owned → AreFlagsOf db (struck db subject) l.struck → OrderFlagged db (is_claimed db subject) l.table-items l.table-index l.claimed.items)
