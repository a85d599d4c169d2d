use Rattle.row_locks.proofs.HeldTables.{held_more, place_within}
use Rattle.row_locks.proofs.session_locks.SessionLocks.hold.Goals as goal

pub returns-clause-more : goal.returns-clause-more
returns-clause-more c =
    held_more c.args.self.now.tables.items c.args.item.now c.index_mut.result.now c.hold.new.self (place_within c.args.self.now.tables.items c.args.item.now c.requires) c.index_mut.ensures.value c.hold.ensures.meet
