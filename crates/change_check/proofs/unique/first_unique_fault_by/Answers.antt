use Rattle.std.proofs.Common.{◌≡◌, inl, inr, refl, sym, ap, ◌∙◌, subst, arith}
use Rattle.std.specs.Prelude.{IfOk, None, Option, Some, slice_get}
use Rattle.std.proofs.lemmas.Bool.{cases_lt}
use Rattle.std.proofs.lemmas.Option.{slice_get_read}
use Rattle.own_base.specs.declared.change.Change.{Change}
use Rattle.own_model.specs.declared.refusal.Refusal.{Refusal}
use Rattle.own_model.specs.declared.schema.Schema.{Schema}
use Rattle.schema_model.proofs.Places.{place-lt, same-place}
use Rattle.change_check.specs.declared.refusing.Rule.TheVariants.{Unique}
use Rattle.change_check.specs.Rule.{breaks_at, breaks_by, refusal_at, refused_by}
use Rattle.change_check.specs.Shared.{HoldsWhatCame}
use Rattle.change_check.proofs.LeastLemmas.{further_then}
use Rattle.change_check.proofs.UniqueCaught.{unique_least}
use Rattle.change_check.proofs.unique.first_unique_fault_by.Goals as goal

pub loop-change-preserved : goal.loop-change-preserved
loop-change-preserved g c =
    let db = g.V.StoreView.db c.args.after.now in
    let test = breaks_at (breaks_by Unique db) db in
    let changes = c.args.changes.now in
    let at = c.loop-change.change-index in
    let own = c.change-item.result in
    let own_is : slice_get changes at ≡ Some own = slice_get_read changes _ at own refl c.loop-change-test.true c.change-item.is in
    let step = c.in_ok-least.ensures {u = tt} in
    record {
      further = further_then test None c.loop-change.least c.in_ok-least.least c.loop-change.invariant.further step.further;
      caught = λ place change within is name held breaks.
          elim (cases_lt place at) [
            | inl before ↦ step.further.still name (c.loop-change.invariant.caught place change before is name held breaks)
            | inr not_before ↦
                let here : place ≡ at = omega arith in
                let same : own ≡ change = same-place changes at own change own_is (ap (slice_get changes) (sym here) ∙ is) in
                step.caught name (subst (λ (other : Change). HoldsWhatCame db other name) (sym same) held) breaks
          ];
    }

pub returns : goal.returns
returns g c = λ before ordered_before schema lead none.
    let db = g.V.StoreView.db c.args.after.now in
    let changes = c.args.changes.now in
    let least = c.loop-change.least in
    let first = unique_least before db changes lead ordered_before (g.met.V.StoreView.ordered c.args.after.now) schema c.requires.rows none least c.loop-change.invariant.further
    (λ place change is name held breaks. let within = place-lt changes place change is in c.loop-change.invariant.caught place change (omega arith) is name held breaks) in
    subst (λ (told : Option Refusal). IfOk c.refusal_at.result (λ first. first ≡ told))
    (ap (λ (s : Schema). refusal_at (refused_by Unique) s least) c.schema.ensures ∙ sym first) c.refusal_at.ensures
