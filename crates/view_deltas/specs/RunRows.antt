-- The rows of a run of a view.
use Rattle.std.specs.Prelude.{List, map}
use Rattle.own_model.specs.Db.{Row}
use Rattle.view_deltas.specs.declared.view_run.ViewRun.{ViewRun}
use Rattle.view_deltas.specs.declared.view_run.ViewRun.TheVariants.{Rows, Groups}

abbrev pub run_rows : ViewRun → List Row
run_rows (Rows entries) = map (λ entry. entry.1) entries.now
run_rows (Groups groups) = map (λ entry. entry.1.1) groups.now
