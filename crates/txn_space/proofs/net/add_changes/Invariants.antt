use Rattle.std.proofs.Common.{◌≡◌, ◌++◌, take, filter_map}
use Rattle.page_model.specs.Paged.{items}
use Rattle.txn_space.specs.EntryNet.{entry_change}
use Rattle.txn_space.proofs.net.add_changes.Given as goal

-- the changes so far stand last
abbrev pub invariant-loop-number : goal.invariant-loop-number
invariant-loop-number g l =
    l.changes ≡ l.fn.changes ++ filter_map (entry_change (g.V.StoreView.db l.base).schema (g.V.StoreView.db l.base).rows l.table) (take l.number (items l.entries))
