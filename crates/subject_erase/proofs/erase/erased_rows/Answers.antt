use Rattle.std.proofs.Common.{◌≡◌, ◌+◌, ◌≤◌, ◌++◌, length, drop, flat_map, refl, ap, ◌∙◌, subst}
use Rattle.std.specs.Prelude.{Some, slice_get}
use Rattle.std.specs.List.{enumerate_from}
use Rattle.std.proofs.lemmas.Option.{slice_get_read}
use Rattle.own_model.specs.declared.schema.Schema.{Schema}
use Rattle.schema_model.specs.OwnerSchema.{ColumnsRefer}
use Rattle.schema_model.proofs.Places.{all-at}
use Rattle.subject_erase.specs.Losing.{erased_rows, erased_table}
use Rattle.subject_erase.proofs.ErasedRows.{listed-all, listed-more}
use Rattle.subject_erase.proofs.erase.erased_rows.Goals as goal

pub loop-number-init : goal.loop-number-init
unfolding erased_rows
loop-number-init g c =
    ap (λ front. front ++ flat_map (erased_table (g.V.StoreView.db c.args.view.now).schema (g.V.StoreView.db c.args.view.now).rows c.args.staying.now c.args.by.now) (enumerate_from 0 (g.V.StoreView.db c.args.view.now).schema.tables)) c.new-changes.ensures

-- the next table is there
pub add_erased-requires-clause-there : goal.add_erased-requires-clause-there
add_erased-requires-clause-there g c =
    let definition = c.definition-item.result in
    subst (λ tables. slice_get tables c.loop-number.number ≡ Some definition) (c.items-definition-items.ensures ∙ ap (λ (s : Schema). s.tables) c.schema.ensures)
    (slice_get_read c.items-definition-items.result.now _ c.loop-number.number definition refl c.loop-number-test.true c.definition-item.is)

pub add_erased-requires-clause-refer : goal.add_erased-requires-clause-refer
add_erased-requires-clause-refer g c =
    let schema = (g.V.StoreView.db c.args.view.now).schema in
    let definition = c.definition-item.result in
    let is : slice_get schema.tables c.loop-number.number ≡ Some definition =
    subst (λ tables. slice_get tables c.loop-number.number ≡ Some definition) (c.items-definition-items.ensures ∙ ap (λ (s : Schema). s.tables) c.schema.ensures)
    (slice_get_read c.items-definition-items.result.now _ c.loop-number.number definition refl c.loop-number-test.true c.definition-item.is) in
    all-at (ColumnsRefer schema) schema.tables c.requires.owner.columns c.loop-number.number definition is

-- one table more
pub loop-number-preserved : goal.loop-number-preserved
loop-number-preserved g c =
    let schema = (g.V.StoreView.db c.args.view.now).schema in
    let made = erased_table schema (g.V.StoreView.db c.args.view.now).rows c.args.staying.now c.args.by.now in
    let definition = c.definition-item.result in
    let number = c.loop-number.number in
    let is : slice_get schema.tables number ≡ Some definition =
    subst (λ tables. slice_get tables number ≡ Some definition) (c.items-definition-items.ensures ∙ ap (λ (s : Schema). s.tables) c.schema.ensures)
    (slice_get_read c.items-definition-items.result.now _ number definition refl c.loop-number-test.true c.definition-item.is) in
    ap (λ front. front ++ flat_map made (enumerate_from (number + 1) (drop (number + 1) schema.tables))) c.in_ok-add_erased.ensures
    ∙ listed-more made schema.tables number definition c.loop-number.changes _ is c.loop-number.invariant

pub returns : goal.returns
returns g c =
    let schema = (g.V.StoreView.db c.args.view.now).schema in
    let past : length schema.tables ≤ c.loop-number.number =
    subst (λ n. n ≤ c.loop-number.number) (ap length (c.items-definition-items.ensures ∙ ap (λ (s : Schema). s.tables) c.schema.ensures)) c.loop-number-test.false in
    listed-all (erased_table schema (g.V.StoreView.db c.args.view.now).rows c.args.staying.now c.args.by.now) schema.tables c.loop-number.number c.loop-number.changes _ past c.loop-number.invariant
