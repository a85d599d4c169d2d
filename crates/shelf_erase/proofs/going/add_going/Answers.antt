use Rattle.std.proofs.Common.{◌≡◌, ap, sym, ◌∙◌, subst}
use Rattle.std.specs.Prelude.{Some}
use Rattle.std.proofs.lemmas.Result.{on_ok_weaker}
use Rattle.own_base.specs.declared.change.Change.{Change}
use Rattle.own_base.specs.declared.number.TableNo.{TableNo}
use Rattle.subject_model.proofs.JoinsLemmas.{same_table}
use Rattle.shelf_erase.specs.Above.{AboveTold}
use Rattle.shelf_erase.specs.ChangeAt.{removal_at}
use Rattle.shelf_erase.specs.OwnIn.{IsNamedIn}
use Rattle.shelf_erase.proofs.ShelfPlaces.{going-some, stay-none, told-goes, told-stays}
use Rattle.shelf_erase.proofs.ToldLemmas.{tells-nothing, tells-put, tells-weaker}
use Rattle.shelf_erase.proofs.going.add_going.Goals as goal

pub returns-then-not-goes : goal.returns-then-not-goes
returns-then-not-goes g c = λ told_above.
    let db = g.V.StoreView.db c.args.view.now in
    let subject = c.args.subject.now.0 in
    let name = c.args.copy.now.name in
    let own : c.args.table ≡ name.table = sym (same_table name.table c.args.table c.if-copy-table.false) in
    let above : AboveTold db subject name.table c.args.removals.now = subst (λ (t : TableNo). AboveTold db subject t c.args.removals.now) own told_above in
    tells-weaker (removal_at db subject) (λ other. other ≡ name) (IsNamedIn name c.args.table) c.args.removals.now c.args.removals.now (λ other is. is.named)
    (tells-nothing (removal_at db subject) name c.args.removals.now (stay-none db subject name c.args.copy.now.row c.requires.row (told-stays db subject c.in_ok-goes.goes name (c.in_ok-goes.ensures above) c.if-not-goes.true)))

pub returns : goal.returns
returns g c =
    let db = g.V.StoreView.db c.args.view.now in
    let subject = c.args.subject.now.0 in
    let name = c.args.copy.now.name in
    let own : c.args.table ≡ name.table = sym (same_table name.table c.args.table c.if-copy-table.false) in
    on_ok_weaker c.put.result (λ puts told_above.
    let above : AboveTold db subject name.table c.args.removals.now = subst (λ (t : TableNo). AboveTold db subject t c.args.removals.now) own told_above in
    tells-weaker (removal_at db subject) (λ other. other ≡ name) (IsNamedIn name c.args.table) c.args.removals.now c.put.new.self (λ other is. is.named)
    (tells-put (removal_at db subject) name c.in_ok-change.change c.args.removals.now c.put.new.self
    (going-some db subject name c.args.copy.now.row c.requires.row (told-goes db subject c.in_ok-goes.goes name (c.in_ok-goes.ensures above) c.if-not-goes.false) ∙ ap Some (sym c.in_ok-change.ensures))
    (ap (λ (change : Change). change.name) c.in_ok-change.ensures) puts)) c.put.ensures
