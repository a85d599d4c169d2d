use Rattle.std.proofs.Common.{◌≡◌, map, take}
use Rattle.query_model.specs.WriteFaults.{left_faults}
use Rattle.bind_scope.specs.After.{after}
use Rattle.plan_bind.specs.NumberedColumns.{column_of}
use Rattle.plan_bind.proofs.tuple.note_left.Given as goal

-- those so far are noted
abbrev pub invariant-loop-column : goal.invariant-loop-column
invariant-loop-column l = l.least ≡ after l.initial.least (left_faults l.targets.table (map column_of (take l.column-index l.column-items)))
