use Rattle.std.proofs.Common.{take}
use Rattle.txn_space.specs.HasPut.{HavePut}
use Rattle.txn_space.proofs.put.put_all.Given as goal

-- the changes so far are made
abbrev pub invariant-loop-change : goal.invariant-loop-change
invariant-loop-change l = HavePut (take l.change-index l.changes) l.fn.tables.items l.tables.items
