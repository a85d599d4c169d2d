use Rattle.annot_schema.proofs.OwnedTables.{owns_tables-unbroken}
use Rattle.annot_schema.proofs.admit.check_additions.Goals as goal

-- no OWNS column names the new table, since no walk is closed
pub check_rows-requires-clause-owned : goal.check_rows-requires-clause-owned
check_rows-requires-clause-owned g c =
    let unclosed = rw c.create.ensures at c.in_ok-check_walks.ensures in
    rw c.requires.viewed (owns_tables-unbroken c.args.schema.now c.args.draft.now c.requires.sound.owner c.requires.unbroken unclosed)
