use Rattle.std.proofs.Common.{◌≡◌, drop, bytes_eq}
use Rattle.std.specs.List.{enumerate_from, find}
use Rattle.query_model.specs.WriteFaults.{column_in}
use Rattle.plan_bind.proofs.numbered_column.column_named.Given as goal

-- the column is to be found from here on
abbrev pub invariant-loop-number : goal.invariant-loop-number
invariant-loop-number l = column_in l.table l.name ≡ find (λ numbered. bytes_eq numbered.1.name l.name) (enumerate_from l.number (drop l.number l.table.columns))
