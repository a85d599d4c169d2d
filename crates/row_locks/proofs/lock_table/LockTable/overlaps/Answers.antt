use Rattle.std.proofs.Common.{sym}
use Rattle.row_locks.specs.SessionItems.{items_by}
use Rattle.row_locks.proofs.Holders.{lie-none}
use Rattle.row_locks.proofs.lock_table.LockTable.overlaps.Goals as goal

pub returns-in-None : goal.returns-in-None
returns-in-None c = λ items stands. sym (lie-none (items_by c.args.self.now c.args.session.0) items c.args.names.now c.in-None.ensures stands)
