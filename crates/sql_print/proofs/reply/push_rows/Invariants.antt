use Rattle.std.proofs.Common.{◌≡◌, ◌++◌, take}
use Rattle.std.specs.List.{flat_map}
use Rattle.text_model.specs.Lines.{row_line}
use Rattle.sql_print.proofs.reply.push_rows.Given as goal

-- the lines so far are written
abbrev pub invariant-loop-row : goal.invariant-loop-row
invariant-loop-row l = l.buffer ≡ l.initial.buffer ++ flat_map row_line (take l.row-index l.rows)
