use Rattle.std.proofs.Common.{List, sym, subst}
use Rattle.own_base.specs.declared.change.Change.{Change}
use Rattle.shelf_erase.specs.ChangeAt.{change_at, removal_at}
use Rattle.shelf_erase.specs.Told.{AreTold}
use Rattle.shelf_erase.proofs.ReferringLemmas.{RefersToAt, refers-all, refers-one}
use Rattle.shelf_erase.proofs.ToldLemmas.{first-more, first-start}
use Rattle.shelf_erase.proofs.referring.add_referring_to.Goals as goal

pub loop-change-init : goal.loop-change-init
loop-change-init g c =
    let db = g.V.StoreView.db c.args.view.now in
    first-start (change_at db c.args.subject.now.0) (RefersToAt db c.args.subject.now.0 c.args.gone.now) c.args.changes.now

pub loop-change-preserved : goal.loop-change-preserved
loop-change-preserved g c =
    let db = g.V.StoreView.db c.args.view.now in
    let subject = c.args.subject.now.0 in
    first-more (change_at db subject) (RefersToAt db subject c.args.gone.now) c.loop-change.change-index c.args.changes.now c.loop-change.changes c.add_referring.new.changes c.loop-change.invariant
    (refers-one db subject c.args.gone.now c.loop-change.change-index c.change-item.result c.loop-change.changes c.add_referring.new.changes c.loop-change-test.true c.change-item.is c.in_ok-add_referring.ensures)

pub returns : goal.returns
returns g c =
    let db = g.V.StoreView.db c.args.view.now in
    let subject = c.args.subject.now.0 in
    refers-all db subject c.args.gone.now c.loop-change.change-index c.args.changes.now c.loop-change.changes
    (subst (λ (list : List Change). AreTold (removal_at db subject) list) (sym c.requires.gone) c.requires.removals) c.loop-change-test.false c.loop-change.invariant
