use Rattle.std.proofs.Common.{◌≡◌, ◌++◌, map, take}
use Rattle.view_deltas.proofs.keys.add_keys.Given as goal

-- the keys of the pairs so far are there
abbrev pub invariant-loop-pair : goal.invariant-loop-pair
invariant-loop-pair l = l.keys ≡ l.fn.keys ++ map (λ pair. pair.1) (take l.pair-index l.pairs)
