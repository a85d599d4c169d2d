use Rattle.std.proofs.Common.{◌≡◌, map, take}
use Rattle.std.specs.List.{flat_map}
use Rattle.query_model.specs.WriteFaults.{tuple_faults}
use Rattle.query_model.specs.WriteMeaning.{put_row}
use Rattle.bind_scope.specs.After.{after}
use Rattle.plan_bind.proofs.insert.bind_tuples.Given as goal

-- the tuples so far put these rows, and their faults are noted
abbrev pub invariant-loop-tuple : goal.invariant-loop-tuple
invariant-loop-tuple l = record {
  rows : l.rows.items ≡ map (put_row l.targets.table l.targets.names) (take l.tuple-index l.tuples);
  noted : l.least ≡ after l.initial.least (flat_map (tuple_faults l.targets.table l.targets.names) (take l.tuple-index l.tuples));
}
