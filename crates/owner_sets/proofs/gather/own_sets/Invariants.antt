use Rattle.std.proofs.Common.{◌≡◌, map}
use Rattle.std.specs.List.{range_with_len}
use Rattle.owner_sets.specs.Gathered.{own_set}
use Rattle.owner_sets.proofs.gather.own_sets.Given as goal

-- the rows before the place are gone through
abbrev pub invariant-loop-at : goal.invariant-loop-at
invariant-loop-at g l = l.sets.items ≡ map (own_set (g.V.StoreView.db l.view).schema (g.V.StoreView.db l.view).rows l.table.0) (range_with_len 0 l.at)
