use Rattle.std.proofs.Common.{◌≡◌, ◌-◌, ℕ, length}
use Rattle.row_locks.specs.SessionItems.{all_items, items_by}
use Rattle.row_locks.proofs.sessions.grow.Given as goal

-- nobody holds more
abbrev pub invariant-loop-alloc : goal.invariant-loop-alloc
invariant-loop-alloc l = (number : ℕ) → items_by (all_items l.sessions.items) number ≡ items_by (all_items l.fn.sessions.items) number

abbrev pub decreases-loop-alloc : goal.decreases-loop-alloc
decreases-loop-alloc l = l.count - length l.sessions.items
