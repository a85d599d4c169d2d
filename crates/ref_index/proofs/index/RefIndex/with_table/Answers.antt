use Rattle.std.proofs.Common.{◌≡◌, ◌∙◌, List, length, subst}
use Rattle.own_model.specs.declared.schema.Column.{Column}
use Rattle.ref_index.specs.AddsColumns.{AddsColumns}
use Rattle.ref_index.specs.declared.column_index.ColumnIndex.{ColumnIndex}
use Rattle.ref_index.proofs.TableLemmas.{stands_with}
use Rattle.ref_index.proofs.index.RefIndex.with_table.Goals as goal

pub returns : goal.returns
returns c = λ old new ordered stands adds last.
    let before : c.in_ok-columns.columns.items ≡ c.args.self.now = c.in_ok-columns.ensures ∙ (c.as_slice.ensures.value ∙ c.self.view_is) in
    let after = c.push_columns.new.made.items in
    stands_with old new c.args.definition.now ordered adds c.args.table c.args.self.now after last stands
    (subst (λ (columns : List Column). AddsColumns c.args.table columns (length columns) c.args.self.now after) c.items.ensures
    (subst (λ (index : List ColumnIndex). AddsColumns c.args.table c.items.result.now (length c.items.result.now) index after) before c.in_ok-push_columns.ensures))
