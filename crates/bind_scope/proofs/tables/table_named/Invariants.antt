use Rattle.std.proofs.Common.{◌≡◌, drop, bytes_eq}
use Rattle.std.specs.List.{enumerate_from, find}
use Rattle.query_model.specs.Scope.{table_named}
use Rattle.bind_scope.proofs.tables.table_named.Given as goal

-- the table is to be found from here on
abbrev pub invariant-loop-number : goal.invariant-loop-number
invariant-loop-number l = table_named l.schema l.name ≡ find (λ numbered. bytes_eq numbered.1.name l.name) (enumerate_from l.number (drop l.number l.schema.tables))
