use Rattle.std.proofs.Common.{◌≡◌, ◌<◌, true}
use Rattle.change_check.specs.declared.cell_name.CellName.{CellName}
use Rattle.change_check.specs.declared.refusing.Rule.TheVariants.{Reference}
use Rattle.change_check.specs.Dangling.{RefersTo}
use Rattle.change_check.specs.Least.{IsFurther, is_reached}
use Rattle.change_check.specs.Rule.{breaks_at, breaks_by}
use Rattle.change_check.proofs.referring.referring_in_columns.Given as goal

-- what was found is taken further, by the columns so far
abbrev pub invariant-loop-at : goal.invariant-loop-at
invariant-loop-at g l =
    let db = g.V.StoreView.db l.view in
    let test = breaks_at (breaks_by Reference db) db in
    record {
      further : IsFurther test l.fn.found l.least;
      caught : (name : CellName) → name.row.table.0 ≡ l.fn.table.0 → name.column.0 < l.at → RefersTo db l.name name → is_reached l.least name ≡ true;
    }
