use Rattle.std.proofs.Common.{take}
use Rattle.std.specs.List.{AllByRecursion}
use Rattle.store_version.proofs.FewRows.{HasFew}
use Rattle.store_version.proofs.rows.Rows.are_few.Given as goal

-- the tables that were looked at have few rows
abbrev pub invariant-loop-part : goal.invariant-loop-part
invariant-loop-part l = AllByRecursion HasFew (take l.part-index l.part-items)
