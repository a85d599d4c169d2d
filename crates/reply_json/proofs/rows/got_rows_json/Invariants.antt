use Rattle.std.proofs.Common.{◌≡◌, map, take}
use Rattle.serde_json.specs.View.{view}
use Rattle.reply_json.specs.Rows.{got_data}
use Rattle.reply_json.proofs.rows.got_rows_json.Given as goal

-- the rows so far are in the array
abbrev pub invariant-loop-row : goal.invariant-loop-row
invariant-loop-row l = map view l.items.items ≡ map (got_data l.tables) (take l.row-index l.rows)
