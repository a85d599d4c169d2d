use Rattle.std.proofs.Common.{take}
use Rattle.ref_index.specs.Moved.{AreMoved}
use Rattle.ref_index.proofs.index.moved.Given as goal

-- those so far
abbrev pub invariant-loop-column : goal.invariant-loop-column
invariant-loop-column l = AreMoved l.changes (take l.column-index l.columns) l.after.items
