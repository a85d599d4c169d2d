use Rattle.std.proofs.Common.{List, drop}
use Rattle.std.specs.List.{AllByRecursion}
use Rattle.own_model.specs.declared.schema.TableDef.{TableDef}
use Rattle.own_model.specs.Db.{Row}
use Rattle.query_model.specs.Stored.{IsStoredRow}
use Rattle.view_deltas.specs.Changes.{after_changes, AllFit, Halfway}
use Rattle.view_deltas.specs.Joined.{AreFoundIn, KeepsSide}
use Rattle.view_deltas.specs.Keys.{KeepsKeys}
use Rattle.view_deltas.specs.TableRows.{AreRows}
use Rattle.view_deltas.proofs.joined_side.JoinedSide.follow_all.Given as goal

-- whatever rows are kept at first, the changes that are left make what all make of them
abbrev pub invariant-loop-change : goal.invariant-loop-change
invariant-loop-change g l =
    (own other : TableDef) (others : List Row) → AllByRecursion IsStoredRow others → KeepsKeys other l.on.other_column.0 others l.partners → AreFoundIn (g.V.StoreView.db l.view) l.on.other other others
    → (rows : List Row) → AreRows own rows → AllFit l.on.own.0 own l.changes rows → KeepsSide own other l.query l.on others rows l.self
    → Halfway (KeepsSide own other l.query l.on others) l.on.own.0 own (drop l.change-index l.changes) l.after (after_changes l.on.own.0 own l.changes rows)
