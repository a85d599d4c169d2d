use Rattle.std.proofs.Common.{◌≡◌, ◌++◌, ◌∷◌, take}
use Rattle.std.specs.List.{flat_map}
use Rattle.text_model.specs.Shown.{shown_value}
use Rattle.sql_print.proofs.reply.push_more_values.Given as goal

-- the values so far are written
abbrev pub invariant-loop-value : goal.invariant-loop-value
invariant-loop-value l = l.buffer ≡ l.initial.buffer ++ flat_map (λ value. 124 ∷ shown_value value) (take l.value-index l.values)
