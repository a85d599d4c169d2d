use Rattle.std.proofs.Common.{◌-◌}
use Rattle.own_model.specs.Db.{as_key}
use Rattle.own_model.specs.Stored.{rows_at}
use Rattle.owner_sets.proofs.Searched.{Narrowed}
use Rattle.owner_sets.proofs.places.searched.Given as goal

-- the row that has the key, if there is one, is among those that are left
abbrev pub invariant-loop-low : goal.invariant-loop-low
invariant-loop-low g l = Narrowed l.definition (as_key l.key) (rows_at (g.V.StoreView.db l.view).rows l.table.0) l.low l.high

abbrev pub decreases-loop-low : goal.decreases-loop-low
decreases-loop-low g l = l.high - l.low
