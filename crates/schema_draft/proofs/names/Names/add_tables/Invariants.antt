use Rattle.std.proofs.Common.{take}
use Rattle.schema_draft.specs.Names.{AddsNames, table_named}
use Rattle.schema_draft.proofs.names.Names.add_tables.Given as goal

abbrev pub invariant-loop-number : goal.invariant-loop-number
invariant-loop-number l = AddsNames l.initial.self l.self (table_named (take l.number l.tables))
