use Rattle.std.proofs.Common.{◌≡◌, ◌++◌, map, take}
use Rattle.std.specs.List.{filter}
use Rattle.std.specs.Option.{option_copied}
use Rattle.query_model.specs.Truth.{keeps}
use Rattle.view_select.proofs.kept.keep_groups.Given as goal

-- the rows so far that are kept
abbrev pub invariant-loop-group : goal.invariant-loop-group
invariant-loop-group l = l.kept ≡ l.initial.kept ++ filter (keeps (option_copied l.cond)) (map (λ group. group.1.1) (take l.group-index l.groups))
