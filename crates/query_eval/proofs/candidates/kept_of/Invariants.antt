use Rattle.std.proofs.Common.{◌≡◌, map, take}
use Rattle.std.specs.List.{filter}
use Rattle.std.specs.Option.{option_copied}
use Rattle.query_model.specs.Truth.{keeps}
use Rattle.query_eval.proofs.candidates.kept_of.Given as goal

-- those of the rows so far that are kept
abbrev pub invariant-loop-row : goal.invariant-loop-row
invariant-loop-row l = l.kept ≡ filter (keeps (option_copied l.cond)) (map (λ row. row.now) (take l.row-index l.row-items))
