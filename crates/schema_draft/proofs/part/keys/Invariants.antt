use Rattle.std.proofs.Common.{◌≡◌, map, take}
use Rattle.std.specs.List.{flat_map}
use Rattle.schema_model.specs.Columns.{keys_of}
use Rattle.schema_draft.proofs.part.keys.Given as goal

abbrev pub invariant-loop-part : goal.invariant-loop-part
invariant-loop-part l = map (λ key. key.now) l.keys.items ≡ flat_map keys_of (take l.part-index l.parts)
