use Rattle.std.proofs.Common.{◌≡◌, [], ap, sym, ◌∙◌, map, true, false, take, arith}
use Rattle.std.specs.List.{slice_get}
use Rattle.std.proofs.lemmas.Simd.{map-map}
use Rattle.schema_draft.specs.Lent.{reference_seen}
use Rattle.schema_model.specs.Columns.{is_named}
use Rattle.schema_model.specs.rules.RepeatedColumns.{repeated_after}
use Rattle.schema_model.specs.rules.SecondReferences.{second_references}
use Rattle.schema_rules.proofs.Firsts.{none_of_all}
use Rattle.schema_rules.proofs.Repeats.{repeated, unrepeated}
use Rattle.schema_rules.proofs.references.second_references.Goals as goal

pub returns-then-has_reference : goal.returns-then-has_reference
unfolding second_references
returns-then-has_reference c =
    let references = c.references-references.result.now in
    let known : is_named (map (λ reference. reference.column.now) (take c.loop-index.index references)) c.index-references-index.result.column.now ≡ true = grind arith in
    repeated (λ reference. reference.column.now) references c.loop-index.index c.index-references-index.result (omega arith) c.index-references-index.is c.loop-index.invariant known
    ∙ ap (λ columns. slice_get (repeated_after [] columns) 0) (sym (map-map (λ reference. reference.column) reference_seen references) ∙ ap (map (λ reference. reference.column)) c.references-references.ensures)

pub loop-index-preserved : goal.loop-index-preserved
loop-index-preserved c =
    let references = c.references-references.result.now in
    let unknown : is_named (map (λ reference. reference.column.now) (take c.loop-index.index references)) c.index-references-index.result.column.now ≡ false = grind arith in
    unrepeated (λ reference. reference.column.now) references c.loop-index.index c.index-references-index.result (omega arith) c.index-references-index.is c.loop-index.invariant unknown

pub returns : goal.returns
unfolding second_references
returns c =
    let references = c.references-references.result.now in
    none_of_all (λ items. repeated_after [] (map (λ reference. reference.column.now) items)) references c.loop-index.index (omega arith) c.loop-index.invariant
    ∙ ap (λ columns. slice_get (repeated_after [] columns) 0) (sym (map-map (λ reference. reference.column) reference_seen references) ∙ ap (map (λ reference. reference.column)) c.references-references.ensures)
