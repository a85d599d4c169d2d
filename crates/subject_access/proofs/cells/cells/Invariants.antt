use Rattle.std.proofs.Common.{◌≡◌, ◌++◌, drop, map}
use Rattle.std.specs.List.{enumerate_from}
use Rattle.subject_access.specs.Cells.{cell_in}
use Rattle.subject_access.proofs.cells.cells.Given as goal

-- the cells so far, and those of the values that are left
abbrev pub invariant-loop-column : goal.invariant-loop-column
invariant-loop-column l =
    l.cells ++ map (cell_in l.hidden) (enumerate_from l.column (drop l.column l.row)) ≡ map (cell_in l.hidden) (enumerate_from 0 l.row)
