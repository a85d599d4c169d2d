use Rattle.std.proofs.Common.{◌≡◌, map, take}
use Rattle.std.specs.List.{flat_map}
use Rattle.query_model.specs.SelectFaults.{item_faults}
use Rattle.query_model.specs.SelectMeaning.{bound_what}
use Rattle.bind_scope.specs.After.{after}
use Rattle.bind_select.proofs.items.bind_listed.Given as goal

-- the items so far are bound, and their faults noted
abbrev pub invariant-loop-item : goal.invariant-loop-item
invariant-loop-item l = record {
  bound : l.bound ≡ map (λ item. bound_what l.scope item.what) (take l.item-index l.items);
  noted : l.least ≡ after l.initial.least (flat_map (λ item. item_faults l.scope l.grouped l.group item.what) (take l.item-index l.items));
}
