use Rattle.std.proofs.Common.{◌≡◌, ◌<◌, ◌≤◌, ◌^◌, length, ap, refl, ◌∙◌, subst, arith, rules}
use Rattle.std.specs.Prelude.{Some, slice_get}
use Rattle.std.proofs.lemmas.Option.{slice_get_read}
use Rattle.own_model.specs.declared.schema.Schema.{Schema}
use Rattle.state_model.proofs.CreatedSchema.{within-created}
use Rattle.shelf_erase.specs.ChangeAt.{change_at}
use Rattle.shelf_erase.specs.Refers.{RefersOf}
use Rattle.shelf_erase.proofs.ReferringLemmas.{refers-tables}
use Rattle.shelf_erase.proofs.ToldLemmas.{first-more, first-start}
use Rattle.shelf_erase.proofs.referring.add_referring.Goals as goal

pub overflow_cast-table : goal.overflow_cast-table
overflow_cast-table g c =
    let db = g.V.StoreView.db c.args.view.now in
    let most : length db.schema.tables ≤ 64 = (within-created db c.requires.sound.well_formed.created).tables in
    let before : c.loop-number.number < length db.schema.tables =
    subst (λ n. c.loop-number.number < n) (ap length (c.items-definition-items.ensures ∙ ap (λ (s : Schema). s.tables) c.schema.ensures)) c.loop-number-test.true in
    let fits : c.loop-number.number < 2 ^ 32 = omega arith in
    search rules

pub loop-number-init : goal.loop-number-init
loop-number-init g c =
    let db = g.V.StoreView.db c.args.view.now in
    first-start (change_at db c.args.subject.now.0) (RefersOf db c.args.gone.now) c.args.changes.now

pub add_table-requires-clause-table : goal.add_table-requires-clause-table
add_table-requires-clause-table g c =
    subst (λ tables. slice_get tables c.loop-number.number ≡ Some c.definition-item.result) (c.items-definition-items.ensures ∙ ap (λ (s : Schema). s.tables) c.schema.ensures)
    (slice_get_read c.items-definition-items.result.now _ c.loop-number.number c.definition-item.result refl c.loop-number-test.true c.definition-item.is)

pub loop-number-preserved : goal.loop-number-preserved
loop-number-preserved g c =
    let db = g.V.StoreView.db c.args.view.now in
    first-more (change_at db c.args.subject.now.0) (RefersOf db c.args.gone.now) c.loop-number.number c.args.changes.now c.loop-number.changes c.add_table.new.changes c.loop-number.invariant c.in_ok-add_table.ensures

pub returns : goal.returns
returns g c =
    let db = g.V.StoreView.db c.args.view.now in
    let past : length db.schema.tables ≤ c.loop-number.number =
    subst (λ n. n ≤ c.loop-number.number) (ap length (c.items-definition-items.ensures ∙ ap (λ (s : Schema). s.tables) c.schema.ensures)) c.loop-number-test.false in
    refers-tables db c.args.subject.now.0 c.args.gone.now c.loop-number.number c.args.changes.now c.loop-number.changes past c.loop-number.invariant
