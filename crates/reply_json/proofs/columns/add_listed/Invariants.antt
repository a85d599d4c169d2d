use Rattle.std.proofs.Common.{◌≡◌, ◌++◌, map, take}
use Rattle.query_model.specs.SelectFaults.{output_name}
use Rattle.reply_json.proofs.columns.add_listed.Given as goal

-- the items so far have their names
abbrev pub invariant-loop-item : goal.invariant-loop-item
invariant-loop-item l = l.names ≡ l.fn.names ++ map output_name (take l.item-index l.items)
