use Rattle.std.proofs.Common.{arith}
use Rattle.std.proofs.lemmas.Grind.{common_steps}
use Rattle.std.proofs.lemmas.List.Elements.{filter_map-append}
use Rattle.schema_draft.proofs.part.push_references_after.Goals as goal

pub loop-attr-preserved : goal.loop-attr-preserved
loop-attr-preserved c = grind (arith, common_steps, filter_map-append)
