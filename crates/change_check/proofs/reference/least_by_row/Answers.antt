use Rattle.std.proofs.Common.{◌≡◌, ◌≤◌, length, refl, sym, ap, ◌∙◌, subst, arith}
use Rattle.std.specs.Prelude.{Some, slice_get}
use Rattle.std.proofs.lemmas.Bool.{ltb-false, ltb-true}
use Rattle.std.proofs.lemmas.Option.{slice_get_read}
use Rattle.own_model.specs.declared.schema.Schema.{Schema}
use Rattle.own_base.specs.declared.row_name.RowName.{RowName}
use Rattle.schema_model.specs.OwnerSchema.{ColumnsRefer}
use Rattle.schema_model.proofs.Places.{all-at, place-lt}
use Rattle.change_check.specs.declared.refusing.Rule.TheVariants.{Reference}
use Rattle.change_check.specs.Rule.{breaks_by}
use Rattle.change_check.proofs.BrokenCells.{broken}
use Rattle.change_check.proofs.reference.least_by_row.Goals as goal

pub dangling_in_columns-requires-clause-refer : goal.dangling_in_columns-requires-clause-refer
dangling_in_columns-requires-clause-refer g c =
    let schema = (g.V.StoreView.db c.args.view.now).schema in
    let there = (c.in-Some.ensures {u = tt}).lookup in
    let is : slice_get schema.tables c.args.change.now.name.table.0 ≡ Some c.in-Some.definition.now =
    subst (λ tables. slice_get tables c.args.change.now.name.table.0 ≡ Some c.in-Some.definition.now) (c.items.ensures ∙ ap (λ (s : Schema). s.tables) c.schema.ensures)
    (slice_get_read c.items.result.now _ c.args.change.now.name.table.0 c.in-Some.definition.now refl (ltb-true _ _ (sym there.0)) there.1) in
    all-at (ColumnsRefer schema) schema.tables c.requires.owner.columns c.args.change.now.name.table.0 c.in-Some.definition.now is

pub returns-in-None-clause-caught : goal.returns-in-None-clause-caught
returns-in-None-clause-caught g c = λ name came breaks.
    let db = g.V.StoreView.db c.args.view.now in
    let it = broken (breaks_by Reference db) db name breaks in
    let within = place-lt db.schema.tables name.row.table.0 it.table it.table_is in
    let same : name.row.table.0 ≡ c.args.change.now.name.table.0 = ap (λ (n : RowName). n.table.0) came.row in
    let past : length c.items.result.now ≤ c.args.change.now.name.table.0 = ltb-false _ _ (sym (c.in-None.ensures {u = tt}).lookup.0) in
    let lists : length c.items.result.now ≡ length db.schema.tables = ap length (c.items.ensures ∙ ap (λ (s : Schema). s.tables) c.schema.ensures) in
    absurd (omega arith)
