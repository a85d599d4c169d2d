use Rattle.std.proofs.Common.{◌≡◌, map, take}
use Rattle.serde_json.specs.View.{view}
use Rattle.serde_json.specs.Data.{string}
use Rattle.reply_json.proofs.rows.lines_json.Given as goal

-- the lines so far are in the array
abbrev pub invariant-loop-line : goal.invariant-loop-line
invariant-loop-line l = map view l.items.items ≡ map (λ line. string line) (take l.line-index l.lines)
