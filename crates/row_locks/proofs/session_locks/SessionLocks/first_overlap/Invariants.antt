use Rattle.std.proofs.Common.{◌≡◌, drop}
use Rattle.history_model.specs.Held.{first_overlap}
use Rattle.row_locks.specs.SessionItems.{items_of}
use Rattle.row_locks.proofs.session_locks.SessionLocks.first_overlap.Given as goal

-- the first is among those that are left
abbrev pub invariant-loop-item : goal.invariant-loop-item
invariant-loop-item l = first_overlap (items_of l.self) (drop l.item-index l.items) ≡ first_overlap (items_of l.self) l.items
