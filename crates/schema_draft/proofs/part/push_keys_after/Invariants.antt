use Rattle.std.proofs.Common.{◌≡◌, ◌++◌, map, take}
use Rattle.schema_model.specs.Columns.{keys_after}
use Rattle.schema_draft.proofs.part.push_keys_after.Given as goal

abbrev pub invariant-loop-attr : goal.invariant-loop-attr
invariant-loop-attr l =
    map (λ key. key.now) l.keys.items ≡ map (λ key. key.now) l.initial.keys.items ++ keys_after l.column (take l.attr-index l.attrs)
