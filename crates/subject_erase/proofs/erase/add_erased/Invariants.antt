use Rattle.std.proofs.Common.{◌≡◌, ◌++◌, drop, filter_map}
use Rattle.std.specs.List.{enumerate_from}
use Rattle.own_model.specs.Stored.{rows_at}
use Rattle.subject_erase.specs.Losing.{erased_at, erased_table}
use Rattle.subject_erase.proofs.erase.add_erased.Given as goal

-- the changes so far, and those of the rows that are left
abbrev pub invariant-loop-at : goal.invariant-loop-at
invariant-loop-at g l =
    let schema = (g.V.StoreView.db l.view).schema in
    let rows = (g.V.StoreView.db l.view).rows in
    l.changes ++ filter_map (erased_at schema rows l.staying l.by l.table.0 l.definition) (enumerate_from l.at (drop l.at (rows_at rows l.table.0)))
    ≡ l.initial.changes ++ erased_table schema rows l.staying l.by (l.table.0, l.definition)
