use Rattle.std.proofs.Common.{◌≡◌, map, take}
use Rattle.std.specs.List.{flat_map}
use Rattle.query_model.specs.WriteFaults.{column_in, not_a_column}
use Rattle.bind_scope.specs.After.{after}
use Rattle.plan_bind.specs.ColumnList.{columns_meant}
use Rattle.plan_bind.proofs.column_list.bind_names.Given as goal

-- the names so far mean these columns, and their faults are noted
abbrev pub invariant-loop-name : goal.invariant-loop-name
invariant-loop-name l = record {
  found : columns_meant l.columns ≡ map (column_in l.table) (take l.name-index l.names);
  noted : l.least ≡ after l.initial.least (flat_map (not_a_column l.table) (take l.name-index l.names));
}
