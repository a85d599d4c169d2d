use Rattle.std.proofs.Common.{sym, ◌∙◌}
use Rattle.std.proofs.lemmas.Result.{on_ok_weaker}
use Rattle.shelf_erase.specs.ChangeAt.{change_at}
use Rattle.shelf_erase.proofs.ShelfPlaces.{change-name}
use Rattle.shelf_erase.proofs.ToldLemmas.{tells-put}
use Rattle.shelf_erase.proofs.becoming.add_row.Goals as goal

pub returns-in-Some : goal.returns-in-Some
returns-in-Some g c =
    let db = g.V.StoreView.db c.args.view.now in
    let name = c.args.name.now in
    on_ok_weaker c.put.result (λ puts subject are by_is.
    let is = sym (c.in_ok-change.ensures subject are by_is) ∙ c.in-Some.is in
    tells-put (change_at db subject) name c.in-Some.change c.args.changes.now c.put.new.self is (change-name db subject name c.in-Some.change is) puts) c.put.ensures
