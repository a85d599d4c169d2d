use Rattle.std.proofs.Common.{◌≡◌, ◌++◌, ◌∷◌, take}
use Rattle.std.specs.List.{flat_map}
use Rattle.sql_print.specs.Spaces.{after_spaces}
use Rattle.sql_print.proofs.word.push_others.Given as goal

-- the parts so far are written
abbrev pub invariant-loop-part : goal.invariant-loop-part
invariant-loop-part g l = l.buffer ≡ l.initial.buffer ++ flat_map (λ part. 32 ∷ 44 ∷ after_spaces (g.T.Worded.words part)) (take l.part-index l.parts)
