use Rattle.std.proofs.Common.{◌≡◌, map, take}
use Rattle.serde_json.specs.View.{view}
use Rattle.reply_json.specs.Values.{value_data}
use Rattle.reply_json.proofs.rows.values_json.Given as goal

-- the values so far are in the array
abbrev pub invariant-loop-value : goal.invariant-loop-value
invariant-loop-value l = map view l.items.items ≡ map value_data (take l.value-index l.values)
