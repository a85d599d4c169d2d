use Rattle.ref_index.specs.AddsColumns.{AddsColumns}
use Rattle.ref_index.proofs.index.push_columns.Given as goal

-- those of the columns so far
abbrev pub invariant-loop-number : goal.invariant-loop-number
invariant-loop-number l = AddsColumns l.table l.columns l.number l.fn.made.items l.made.items
