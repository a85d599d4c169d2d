use Rattle.std.proofs.Common.{◌≡◌, ◌≤◌, length, ap, refl, subst}
use Rattle.std.specs.Prelude.{Some, slice_get}
use Rattle.std.proofs.lemmas.Option.{slice_get_read}
use Rattle.shelf_erase.specs.ChangeAt.{change_at}
use Rattle.shelf_erase.specs.Refers.{RefersBy}
use Rattle.shelf_erase.proofs.ReferringLemmas.{refers-column, refers-columns}
use Rattle.shelf_erase.proofs.ToldLemmas.{first-more, first-start}
use Rattle.shelf_erase.proofs.referring.add_table.Goals as goal

pub loop-number-init : goal.loop-number-init
loop-number-init g c =
    let db = g.V.StoreView.db c.args.view.now in
    first-start (change_at db c.args.subject.now.0) (RefersBy db c.args.gone.now c.args.table.0 c.args.definition.now) c.args.changes.now

pub add_column-requires-clause-column : goal.add_column-requires-clause-column
add_column-requires-clause-column g c =
    subst (λ columns. slice_get columns c.loop-number.number ≡ Some c.column-item.result) c.items-column-items.ensures
    (slice_get_read c.items-column-items.result.now _ c.loop-number.number c.column-item.result refl c.loop-number-test.true c.column-item.is)

pub loop-number-preserved : goal.loop-number-preserved
loop-number-preserved g c =
    let db = g.V.StoreView.db c.args.view.now in
    let subject = c.args.subject.now.0 in
    let column = c.column-item.result in
    let is : slice_get c.args.definition.now.columns c.loop-number.number ≡ Some column =
    subst (λ columns. slice_get columns c.loop-number.number ≡ Some column) c.items-column-items.ensures
    (slice_get_read c.items-column-items.result.now _ c.loop-number.number column refl c.loop-number-test.true c.column-item.is) in
    first-more (change_at db subject) (RefersBy db c.args.gone.now c.args.table.0 c.args.definition.now) c.loop-number.number c.args.changes.now c.loop-number.changes c.add_column.new.changes c.loop-number.invariant
    (refers-column db subject c.args.gone.now c.args.table.0 c.args.definition.now c.loop-number.number column c.loop-number.changes c.add_column.new.changes is c.in_ok-add_column.ensures)

pub returns : goal.returns
returns g c =
    let db = g.V.StoreView.db c.args.view.now in
    let past : length c.args.definition.now.columns ≤ c.loop-number.number = subst (λ n. n ≤ c.loop-number.number) (ap length c.items-column-items.ensures) c.loop-number-test.false in
    refers-columns db c.args.subject.now.0 c.args.gone.now c.args.table.0 c.args.definition.now c.loop-number.number c.args.changes.now c.loop-number.changes c.requires.table past c.loop-number.invariant
