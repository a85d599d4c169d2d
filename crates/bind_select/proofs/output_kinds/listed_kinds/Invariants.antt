use Rattle.std.proofs.Common.{◌≡◌, map, take}
use Rattle.query_model.specs.SelectMeaning.{what_kind}
use Rattle.bind_select.proofs.output_kinds.listed_kinds.Given as goal

-- the items so far have their kinds
abbrev pub invariant-loop-item : goal.invariant-loop-item
invariant-loop-item l = l.kinds ≡ map (λ item. what_kind l.scope item.what) (take l.item-index l.items)
