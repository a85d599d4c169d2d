use Rattle.std.proofs.Common.{◌≡◌, ◌++◌, map, take}
use Rattle.shell_session.specs.Names.{names_of_table}
use Rattle.shell_session.proofs.naming.add_tables.Given as goal

-- the tables so far have their names
abbrev pub invariant-loop-table : goal.invariant-loop-table
invariant-loop-table l = l.names ≡ l.fn.names ++ map names_of_table (take l.table-index l.tables)
