use Rattle.std.proofs.Common.{◌≡◌, ◌++◌, map, take}
use Rattle.std.specs.List.{filter_map}
use Rattle.schema_model.specs.References.{reference_after}
use Rattle.schema_draft.specs.Lent.{reference_seen}
use Rattle.schema_draft.proofs.part.push_references_after.Given as goal

abbrev pub invariant-loop-attr : goal.invariant-loop-attr
invariant-loop-attr l =
    map reference_seen l.references.items ≡ map reference_seen l.initial.references.items ++ filter_map (reference_after l.column) (take l.attr-index l.attrs)
