use Rattle.std.proofs.Common.{◌≡◌, take}
use Rattle.owner_model.specs.ColumnSets.{set_of}
use Rattle.schema_draft.proofs.RuledSets.{has_one_of}
use Rattle.schema_draft.proofs.ruled.columns_named.Given as goal

abbrev pub invariant-loop-number : goal.invariant-loop-number
invariant-loop-number l = l.set ≡ set_of (has_one_of l.names (take l.number l.table.columns))
