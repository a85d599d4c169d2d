use Rattle.std.proofs.Common.{◌≡◌, ◌++◌, drop}
use Rattle.std.specs.List.{AllByRecursion, flat_map}
use Rattle.disk_model.specs.Bounds.{AreShortRows, IsTypedRow}
use Rattle.disk_model.specs.Spelling.{list_spelling, row_spelling}
use Rattle.check_image.proofs.tables.write_tables.Given as goal

-- the tables before this one are written
abbrev pub invariant-loop-number : goal.invariant-loop-number
invariant-loop-number g l =
    (l.out.items ++ flat_map (list_spelling row_spelling) (drop l.number (g.V.StoreView.db l.view).rows) ≡ l.fn.out.items ++ flat_map (list_spelling row_spelling) (g.V.StoreView.db l.view).rows)
    × AllByRecursion AreShortRows (drop l.number (g.V.StoreView.db l.view).rows)
    × (AllByRecursion (AllByRecursion IsTypedRow) (drop l.number (g.V.StoreView.db l.view).rows) → AllByRecursion (AllByRecursion IsTypedRow) (g.V.StoreView.db l.view).rows)
