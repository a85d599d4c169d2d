use Rattle.std.proofs.Common.{◌≡◌, ◌+◌, ◌-◌}
use Rattle.own_model.specs.declared.limit.TheConstants.{SESSIONS}
use Rattle.row_locks.specs.SessionItems.{items_by}
use Rattle.row_locks.specs.RepresentsItems.{holder_among}
use Rattle.row_locks.proofs.Searched.{search}
use Rattle.row_locks.proofs.lock_table.LockTable.first_holder.Given as goal

-- the holder is among the sessions that are left
abbrev pub invariant-loop-number : goal.invariant-loop-number
invariant-loop-number l = holder_among (items_by l.self) l.session.0 l.footprint ≡ search (items_by l.self) l.session.0 l.footprint l.number (SESSIONS + 1 - l.number)
