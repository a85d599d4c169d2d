use Rattle.std.proofs.Common.{take}
use Rattle.schema_draft.specs.Names.{AddsNames, view_named}
use Rattle.schema_draft.proofs.names.Names.add_views.Given as goal

abbrev pub invariant-loop-number : goal.invariant-loop-number
invariant-loop-number l = AddsNames l.initial.self l.self (view_named (take l.number l.views))
