use Rattle.std.proofs.Common.{◌≡◌, sym, ap, ◌∙◌, subst}
use Rattle.std.specs.Prelude.{IfOk, None, Option}
use Rattle.own_model.specs.declared.refusal.Refusal.{Refusal}
use Rattle.own_model.specs.declared.schema.Schema.{Schema}
use Rattle.change_check.specs.Unowned.{is_of_unowned, owner_refusal}
use Rattle.change_check.proofs.LeastLemmas.{further_then}
use Rattle.change_check.proofs.OwnerCaught.{owner_least}
use Rattle.change_check.proofs.owner.first_owner_fault_by.Goals as goal

pub returns : goal.returns
returns g c = λ before ordered_before schema lead are none.
    let db = g.V.StoreView.db c.args.after.now in
    let changed = c.in_ok-changed.changed in
    let least = c.in_ok-least.least in
    let by_changes = c.in_ok-changed.ensures {u = tt} in
    let by_moves = c.in_ok-least.ensures {u = tt} in
    let first = owner_least before db c.args.changes.now c.args.moves.now lead are ordered_before (g.met.V.StoreView.ordered c.args.after.now) schema c.requires none least
    (further_then (is_of_unowned db) None changed least by_changes.further by_moves.further)
    (λ place change is cell same unowned. by_moves.further.still cell (by_changes.caught place change is cell same unowned)) by_moves.caught in
    subst (λ (told : Option Refusal). IfOk c.owner_refusal.result (λ first. first ≡ told))
    (ap (λ (s : Schema). owner_refusal s least) c.schema.ensures ∙ sym first) c.owner_refusal.ensures
