use Rattle.std.proofs.Common.{◌-◌}
use Rattle.own_base.specs.Key.{key_cmp}
use Rattle.ordered_pairs.specs.RightsOf.{rights_of}
use Rattle.view_deltas.proofs.KeyRuns.{KeysSoFar}
use Rattle.view_deltas.proofs.keys.keys_of.Given as goal

-- the keys before the place are there
abbrev pub invariant-loop-at : goal.invariant-loop-at
invariant-loop-at l = KeysSoFar (rights_of key_cmp l.pairs l.value) l.count l.at l.keys

abbrev pub decreases-loop-at : goal.decreases-loop-at
decreases-loop-at l = l.count - l.at
