use Rattle.std.proofs.Common.{◌≡◌, map, take}
use Rattle.own_model.specs.Stored.{rows_at}
use Rattle.view_deltas.specs.Inserted.{inserted}
use Rattle.view_deltas.proofs.inserted.inserts.Given as goal

-- the rows so far are put
abbrev pub invariant-loop-at : goal.invariant-loop-at
invariant-loop-at g l = l.changes ≡ map (inserted l.table l.definition) (take l.at (rows_at (g.V.StoreView.db l.view).rows l.table.0))
