use Rattle.std.proofs.Common.{◌-◌}
use Rattle.link_model.specs.Holds.{holders_at}
use Rattle.owner_index.proofs.RunLemmas.{NamesSoFar}
use Rattle.micro_db.proofs.referrers.referrers.Given as goal

-- the names of the keys before the place are there
abbrev pub invariant-loop-at : goal.invariant-loop-at
invariant-loop-at g l = NamesSoFar l.table (holders_at (g.N.Referring.linked l.after) l.table.0 l.column.0 l.key) l.count l.at l.names

abbrev pub decreases-loop-at : goal.decreases-loop-at
decreases-loop-at g l = l.count - l.at
