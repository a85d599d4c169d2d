use Rattle.std.proofs.Common.{ap, ◌∙◌}
use Rattle.row_locks.specs.SessionItems.{items_from}
use Rattle.row_locks.proofs.TableItems.{items_none}
use Rattle.row_locks.proofs.session_locks.SessionLocks.new.Goals as goal

pub returns : goal.returns
returns c = ap (items_from 0) c.new.ensures.items ∙ items_none 0
