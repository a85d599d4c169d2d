use Rattle.std.proofs.Common.{◌≡◌, map, take}
use Rattle.serde_json.specs.View.{view}
use Rattle.reply_json.specs.Values.{cell_data}
use Rattle.reply_json.proofs.rows.cells_json.Given as goal

-- the cells so far are in the array
abbrev pub invariant-loop-cell : goal.invariant-loop-cell
invariant-loop-cell l = map view l.items.items ≡ map cell_data (take l.cell-index l.cells)
