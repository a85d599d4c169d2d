use Rattle.std.proofs.Common.{◌≡◌, ◌-◌, ◌≤◌, ◌++◌, drop, length}
use Rattle.std.specs.List.{AllByRecursion, flat_map}
use Rattle.own_model.specs.Stored.{rows_at}
use Rattle.disk_model.specs.Bounds.{IsTypedRow, IsShortRow}
use Rattle.disk_model.specs.Spelling.{row_spelling}
use Rattle.check_image.proofs.tables.write_rows.Given as goal

-- the rows before the place are written
abbrev pub invariant-loop-at : goal.invariant-loop-at
invariant-loop-at g l =
    (l.count ≡ length (rows_at (g.V.StoreView.db l.view).rows l.table.0))
    × (l.at ≤ l.count)
    × (l.out.items ++ flat_map row_spelling (drop l.at (rows_at (g.V.StoreView.db l.view).rows l.table.0)) ≡ l.fn.out.items ++ flat_map row_spelling (rows_at (g.V.StoreView.db l.view).rows l.table.0))
    × AllByRecursion IsShortRow (drop l.at (rows_at (g.V.StoreView.db l.view).rows l.table.0))
    × (AllByRecursion IsTypedRow (drop l.at (rows_at (g.V.StoreView.db l.view).rows l.table.0)) → AllByRecursion IsTypedRow (rows_at (g.V.StoreView.db l.view).rows l.table.0))

abbrev pub decreases-loop-at : goal.decreases-loop-at
decreases-loop-at g l = l.count - l.at
