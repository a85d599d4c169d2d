use Rattle.std.proofs.Common.{◌≡◌, map, take}
use Rattle.plan_bind.specs.ColumnList.{columns_meant}
use Rattle.plan_bind.specs.NumberedColumns.{column_of}
use Rattle.plan_bind.specs.InsertTargets.{place_of}
use Rattle.plan_bind.proofs.insert_targets.places_of.Given as goal

-- the places for the columns so far
abbrev pub invariant-loop-column : goal.invariant-loop-column
invariant-loop-column l = l.places ≡ map (λ column. place_of (columns_meant l.columns) column.0) (map column_of (take l.column-index l.numbered))
