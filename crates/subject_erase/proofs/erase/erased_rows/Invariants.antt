use Rattle.std.proofs.Common.{◌≡◌, ◌++◌, drop, flat_map}
use Rattle.std.specs.List.{enumerate_from}
use Rattle.subject_erase.specs.Losing.{erased_rows, erased_table}
use Rattle.subject_erase.proofs.erase.erased_rows.Given as goal

-- the changes so far, and those of the tables that are left
abbrev pub invariant-loop-number : goal.invariant-loop-number
invariant-loop-number g l =
    let schema = (g.V.StoreView.db l.view).schema in
    let rows = (g.V.StoreView.db l.view).rows in
    l.changes ++ flat_map (erased_table schema rows l.staying l.by) (enumerate_from l.number (drop l.number schema.tables)) ≡ erased_rows schema rows l.staying l.by
