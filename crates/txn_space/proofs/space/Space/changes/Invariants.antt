use Rattle.std.proofs.Common.{◌≡◌, ◌++◌, drop}
use Rattle.txn_space.specs.Entries.{seen}
use Rattle.txn_space.specs.EntryNet.{entry_changes}
use Rattle.txn_space.proofs.space.Space.changes.Given as goal

-- the changes so far, and those of the tables that are left
abbrev pub invariant-loop-number : goal.invariant-loop-number
invariant-loop-number g l =
    let of = entry_changes (g.V.StoreView.db l.base).schema (g.V.StoreView.db l.base).rows in
    l.changes ++ of l.number (drop l.number (seen l.tables)) ≡ of 0 (seen l.tables)
