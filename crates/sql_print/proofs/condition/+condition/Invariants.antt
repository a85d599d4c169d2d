use Rattle.std.proofs.Common.{◌≡◌, ◌++◌, ◌∷◌, take}
use Rattle.std.specs.List.{flat_map}
use Rattle.text_model.specs.Condition.{written}
use Rattle.sql_print.specs.Spaces.{after_spaces}
use Rattle.sql_print.specs.Within.{part_words, separator_of}
use Rattle.sql_print.proofs.condition.+condition.Given as goal

-- the parts so far are written
abbrev pub invariant-push_parts-loop-part : goal.invariant-push_parts-loop-part
invariant-push_parts-loop-part l = l.buffer ≡ l.initial.buffer ++ flat_map (λ part. after_spaces (separator_of l.within ∷ part_words l.within (written part))) (take l.part-index l.rest)
