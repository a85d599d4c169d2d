use Rattle.std.proofs.Common.{◌≡◌, ◌++◌, take}
use Rattle.std.specs.List.{flat_map}
use Rattle.sql_print.specs.Spaces.{after_spaces}
use Rattle.sql_print.proofs.word.push_all.Given as goal

-- the parts so far are written
abbrev pub invariant-loop-part : goal.invariant-loop-part
invariant-loop-part g l = l.buffer ≡ l.initial.buffer ++ after_spaces (flat_map g.T.Worded.words (take l.part-index l.parts))
