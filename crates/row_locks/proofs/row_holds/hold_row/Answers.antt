use Rattle.row_locks.proofs.RowLemmas.{strengthened, strengthened_places}
use Rattle.row_locks.proofs.row_holds.hold_row.Goals as goal

pub returns-in-Some-clause-meet : goal.returns-in-Some-clause-meet
returns-in-Some-clause-meet c =
    strengthened c.args.rows.now.entries (c.get_mut.follows.lender c.and.result).entries c.args.key.now c.in-Some.hold.now c.and.result c.args.write
    c.in-Some.ensures.value (c.get_mut.follows.holds c.and.result).0 c.and.ensures

pub returns-in-Some-clause-places : goal.returns-in-Some-clause-places
returns-in-Some-clause-places c =
    strengthened_places c.args.rows.now.entries (c.get_mut.follows.lender c.and.result).entries c.args.key.now c.and.result (c.get_mut.follows.holds c.and.result).0
