use Rattle.std.proofs.Common.{◌≡◌, map, take}
use Rattle.shell_session.specs.Names.{column_name}
use Rattle.shell_session.proofs.naming.table_columns.Given as goal

-- the columns so far have their names
abbrev pub invariant-loop-column : goal.invariant-loop-column
invariant-loop-column l = l.names ≡ map column_name (take l.column-index l.columns)
