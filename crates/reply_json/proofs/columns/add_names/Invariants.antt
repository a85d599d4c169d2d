use Rattle.std.proofs.Common.{◌≡◌, ◌++◌, take}
use Rattle.reply_json.proofs.columns.add_names.Given as goal

-- the names so far are there
abbrev pub invariant-loop-name : goal.invariant-loop-name
invariant-loop-name l = l.names ≡ l.fn.names ++ take l.name-index l.more
