use Rattle.std.proofs.Common.{◌≡◌, ◌++◌, take}
use Rattle.own_model.specs.Stored.{rows_at}
use Rattle.subject_model.specs.Named.{rows_in}
use Rattle.subject_access.specs.Shown.{shown_of}
use Rattle.subject_access.proofs.collect.add_table.Given as goal

-- the rows before the place are shown
abbrev pub invariant-loop-at : goal.invariant-loop-at
invariant-loop-at g l =
    let db = g.V.StoreView.db l.access.view.now in
    l.shown ≡ l.initial.shown ++ shown_of db l.access.subject.now.0 (rows_in l.table.0 l.definition (take l.at (rows_at db.rows l.table.0)))
