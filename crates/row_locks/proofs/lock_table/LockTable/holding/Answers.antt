use Rattle.std.proofs.Common.{sym}
use Rattle.row_locks.specs.SessionItems.{items_by}
use Rattle.row_locks.proofs.Searched.{no_holding}
use Rattle.row_locks.proofs.lock_table.LockTable.holding.Goals as goal

pub returns-in-None : goal.returns-in-None
returns-in-None c = sym (no_holding (items_by c.args.self.now) c.args.footprint.now c.args.session.0 c.in-None.ensures)
