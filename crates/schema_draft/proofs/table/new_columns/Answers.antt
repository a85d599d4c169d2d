use Rattle.std.proofs.Common.{ap, sym, ◌∙◌, map}
use Rattle.std.proofs.lemmas.List.{take_all}
use Rattle.std.proofs.lemmas.Simd.{map-map}
use Rattle.schema_model.specs.NewTable.{new_column}
use Rattle.schema_draft.proofs.table.new_columns.Goals as goal

pub returns : goal.returns
returns c =
    let columns = c.columns-column-items.result.now in
    let made = new_column c.args.schema.now c.args.draft.now in
    c.loop-column.invariant
    ∙ ap (map (λ column. made column.now)) (take_all c.loop-column.column-index columns c.loop-column-test.false)
    ∙ sym (map-map made (λ column. column.now) columns)
    ∙ ap (map made) c.columns-column-items.ensures
