use Rattle.std.proofs.Common.{◌≡◌}
use Rattle.std.specs.Iterator.Adapters.{zip_first, zip_second}
use Rattle.std.specs.List.{flat_map, zip}
use Rattle.std.specs.Slice.Iter.{iter_rest}
use Rattle.query_model.specs.WriteFaults.{columns_for, value_faults}
use Rattle.bind_scope.specs.After.{after}
use Rattle.plan_bind.specs.ColumnList.{columns_meant}
use Rattle.plan_bind.proofs.tuple.note_values.Given as goal

-- the values from here on are left
abbrev pub invariant-loop-column : goal.invariant-loop-column
invariant-loop-column l = after l.initial.least (flat_map (λ pair. value_faults l.targets.table pair.0 pair.1) (zip (columns_for l.targets.table l.targets.names) l.tuple))
    ≡ after l.least (flat_map (λ pair. value_faults l.targets.table pair.0 pair.1) (zip (columns_meant (iter_rest (zip_first l.column-iterator))) (iter_rest (zip_second l.column-iterator))))
