use Rattle.std.proofs.Common.{◌≡◌, map, take}
use Rattle.std.specs.List.{flat_map}
use Rattle.schema_draft.specs.Lent.{reference_seen}
use Rattle.schema_model.specs.References.{part_references}
use Rattle.schema_draft.proofs.part.references.Given as goal

abbrev pub invariant-loop-part : goal.invariant-loop-part
invariant-loop-part l = map reference_seen l.references.items ≡ flat_map part_references (take l.part-index l.parts)
