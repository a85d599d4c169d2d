use Rattle.std.proofs.Common.{◌≡◌, ◌≤◌, length, drop}
use Rattle.own_model.specs.Stored.{rows_at}
use Rattle.page_model.specs.Paged.{items}
use Rattle.txn_space.specs.Changed.{rows_with}
use Rattle.txn_space.proofs.walk.run_from.Given as goal

-- what is looked for stands so far behind, among the rows that are left with the entries that are left
abbrev pub invariant-loop-number : goal.invariant-loop-number
invariant-loop-number g l =
    let rows = rows_at (g.V.StoreView.db l.base).rows l.table.0 in
    record {
      within : l.from ≤ length rows;
      left : drop l.at (rows_with l.definition (items l.entries) rows) ≡ drop l.left (rows_with l.definition (drop l.number (items l.entries)) (drop l.from rows));
    }
