use Rattle.std.proofs.Common.{◌≡◌, refl, arith}
use Rattle.std.specs.Prelude.{Some, slice_get}
use Rattle.std.proofs.lemmas.Option.{slice_get_read}
use Rattle.own_base.specs.declared.change.Change.{Change}
use Rattle.schema_model.proofs.Places.{place-lt}
use Rattle.change_check.proofs.UnownedCells.{taken_more}
use Rattle.change_check.proofs.owner.least_by_changes.Goals as goal

pub loop-change-preserved : goal.loop-change-preserved
loop-change-preserved g c =
    let changes = c.args.changes.now in
    let at = c.loop-change.change-index in
    let own = c.change-item.result in
    let own_is : slice_get changes at ≡ Some own = slice_get_read changes _ at own refl c.loop-change-test.true c.change-item.is in
    let step = c.in_ok-least.ensures {u = tt} in
    taken_more (g.V.StoreView.db c.args.view.now) (λ (change : Change). change.name) changes c.args.found at own c.loop-change.least c.in_ok-least.least c.loop-change.invariant own_is step.further step.caught

pub returns-clause-caught : goal.returns-clause-caught
returns-clause-caught g c = λ place change is. let within = place-lt c.args.changes.now place change is in c.loop-change.invariant.caught place change (omega arith) is
