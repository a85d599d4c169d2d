use Rattle.std.proofs.Common.{◌≡◌, map, take}
use Rattle.query_model.specs.SelectFaults.{output_name}
use Rattle.bind_select.proofs.output.listed_names.Given as goal

-- the items so far have their names
abbrev pub invariant-loop-item : goal.invariant-loop-item
invariant-loop-item l = l.names ≡ map output_name (take l.item-index l.items)
