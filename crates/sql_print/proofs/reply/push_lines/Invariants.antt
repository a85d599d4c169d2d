use Rattle.std.proofs.Common.{◌≡◌, ◌++◌, take}
use Rattle.std.specs.List.{flat_map}
use Rattle.text_model.specs.Lines.{line_below}
use Rattle.sql_print.proofs.reply.push_lines.Given as goal

-- the lines so far are written
abbrev pub invariant-loop-line : goal.invariant-loop-line
invariant-loop-line l = l.buffer ≡ l.initial.buffer ++ flat_map line_below (take l.line-index l.lines)
