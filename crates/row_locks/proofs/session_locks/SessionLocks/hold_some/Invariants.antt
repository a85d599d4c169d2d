use Rattle.std.proofs.Common.{◌≡◌, drop}
use Rattle.history_model.specs.History.{lie_on}
use Rattle.row_locks.specs.SessionItems.{items_of}
use Rattle.row_locks.proofs.session_locks.SessionLocks.hold_some.Given as goal

-- one of those that are left lies on an item where one of all does
abbrev pub invariant-loop-name : goal.invariant-loop-name
invariant-loop-name l = lie_on (drop l.name-index l.names) (items_of l.self) ≡ lie_on l.names (items_of l.self)
