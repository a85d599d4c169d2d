use Rattle.std.proofs.Common.{◌-◌}
use Rattle.own_model.specs.Stored.{rows_at}
use Rattle.txn_space.proofs.PlaceSteps.{IsSearched}
use Rattle.txn_space.proofs.spot.place_from.Given as goal

-- the place is between low and high
abbrev pub invariant-loop-low : goal.invariant-loop-low
invariant-loop-low g l = IsSearched l.definition l.key (rows_at (g.V.StoreView.db l.base).rows l.table.0) l.from l.low l.high

abbrev pub decreases-loop-low : goal.decreases-loop-low
decreases-loop-low g l = l.high - l.low
