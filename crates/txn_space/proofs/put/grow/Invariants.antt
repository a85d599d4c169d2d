use Rattle.std.proofs.Common.{◌≡◌, ◌≤◌, ◌-◌, ℕ, length}
use Rattle.txn_space.specs.Entries.{entries_at, seen}
use Rattle.txn_space.proofs.put.grow.Given as goal

-- the entries stay, and no table too much is there
abbrev pub invariant-loop-tables : goal.invariant-loop-tables
invariant-loop-tables l = record {
  within : (most : ℕ) → length l.fn.tables.items ≤ most → l.count ≤ most → length l.tables.items ≤ most;
  same : (number : ℕ) → entries_at (seen l.tables.items) number ≡ entries_at (seen l.fn.tables.items) number;
}

abbrev pub decreases-loop-tables : goal.decreases-loop-tables
decreases-loop-tables l = l.count - length l.tables.items
