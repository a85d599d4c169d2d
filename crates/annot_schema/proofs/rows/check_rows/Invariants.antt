use Rattle.std.proofs.Common.{drop, map}
use Rattle.schema_draft.specs.Lent.{reference_seen}
use Rattle.schema_model.specs.References.{references_of}
use Rattle.annot_schema.proofs.OwnedRows.{Goes}
use Rattle.annot_schema.proofs.rows.check_rows.Given as goal

-- what is found is found among the references that are left
abbrev pub invariant-loop-reference : goal.invariant-loop-reference
invariant-loop-reference g l = Goes (g.V.StoreView.db l.view).schema (g.V.StoreView.db l.view).rows (map reference_seen (drop l.reference-index l.reference-items)) (references_of l.draft)
