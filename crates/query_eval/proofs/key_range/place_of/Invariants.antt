use Rattle.std.proofs.Common.{◌-◌}
use Rattle.own_model.specs.Stored.{rows_at}
use Rattle.query_eval.proofs.KeyPlaces.{IsSearched}
use Rattle.query_eval.proofs.key_range.place_of.Given as goal

-- the place is between low and high
abbrev pub invariant-loop-low : goal.invariant-loop-low
invariant-loop-low g l = IsSearched l.definition l.value l.behind (rows_at (g.V.StoreView.db l.view).rows l.table.0) l.low l.high

abbrev pub decreases-loop-low : goal.decreases-loop-low
decreases-loop-low g l = l.high - l.low
