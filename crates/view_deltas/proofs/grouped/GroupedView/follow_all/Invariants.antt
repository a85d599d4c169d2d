use Rattle.std.proofs.Common.{List, drop}
use Rattle.own_model.specs.declared.schema.TableDef.{TableDef}
use Rattle.own_model.specs.Db.{Row}
use Rattle.view_deltas.specs.Changes.{after_changes, AllFit, Halfway}
use Rattle.view_deltas.specs.Groups.{KeepsGroups}
use Rattle.view_deltas.specs.TableRows.{AreRows}
use Rattle.view_deltas.proofs.grouped.GroupedView.follow_all.Given as goal

-- whatever rows are kept at first, the changes that are left make what all make of them
abbrev pub invariant-loop-change : goal.invariant-loop-change
invariant-loop-change l =
    (table : TableDef) (rows : List Row) → AreRows table rows → AllFit l.number.0 table l.changes rows → KeepsGroups l.query rows l.self
    → Halfway (KeepsGroups l.query) l.number.0 table (drop l.change-index l.changes) l.after (after_changes l.number.0 table l.changes rows)
