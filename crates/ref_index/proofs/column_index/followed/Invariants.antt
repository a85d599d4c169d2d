use Rattle.std.proofs.Common.{Option, drop}
use Rattle.own_base.specs.declared.value.Key.{Key}
use Rattle.own_model.specs.Db.{Row}
use Rattle.ref_index.specs.AfterChanges.{after_changes, Fit}
use Rattle.ref_index.specs.Halfway.{Halfway}
use Rattle.ref_index.specs.IndexOf.{IsIndexOf}
use Rattle.ref_index.proofs.column_index.followed.Given as goal

-- whatever rows are indexed at first, the changes that are left make what all make of them
abbrev pub invariant-loop-change : goal.invariant-loop-change
invariant-loop-change l =
    (rows : Key → Option Row) → Fit l.table.0 l.changes rows → IsIndexOf l.column.0 rows l.fn.pairs
    → Halfway l.table.0 l.column.0 (drop l.change-index l.changes) l.after (after_changes l.table.0 l.changes rows)
