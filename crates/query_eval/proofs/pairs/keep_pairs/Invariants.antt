use Rattle.std.proofs.Common.{◌≡◌, ◌++◌, map, take}
use Rattle.std.specs.List.{filter}
use Rattle.std.specs.Option.{option_copied}
use Rattle.query_model.specs.Truth.{keeps}
use Rattle.query_eval.proofs.pairs.keep_pairs.Given as goal

-- the pairs with the rows so far
abbrev pub invariant-loop-right : goal.invariant-loop-right
invariant-loop-right l =
    l.kept ≡ l.initial.kept ++ filter (keeps (option_copied l.cond)) (map (λ right. l.left ++ right) (map (λ right. right.now) (take l.right-index l.right-items)))
