use Rattle.std.proofs.Common.{◌≡◌, inl, inr, refl, sym, ap, ◌∙◌, subst, arith}
use Rattle.std.specs.Prelude.{IfOk, None, Option, Some, slice_get}
use Rattle.std.proofs.lemmas.Bool.{cases_lt}
use Rattle.std.proofs.lemmas.Option.{slice_get_read}
use Rattle.own_base.specs.declared.change.Change.{Change}
use Rattle.own_model.specs.declared.refusal.Refusal.{Refusal}
use Rattle.own_model.specs.declared.schema.Schema.{Schema}
use Rattle.owner_model.specs.Joins.{row_of}
use Rattle.schema_model.proofs.Places.{all-at, place-lt, same-place}
use Rattle.change_check.specs.declared.refusing.Rule.TheVariants.{Reference}
use Rattle.change_check.specs.Dangling.{IsWhatCame, RefersTo, is_taken}
use Rattle.change_check.specs.Rule.{breaks_at, breaks_by, refusal_at, refused_by}
use Rattle.change_check.proofs.LeastLemmas.{further_then}
use Rattle.change_check.proofs.ReferenceCaught.{reference_least}
use Rattle.change_check.proofs.reference.first_reference_fault_by.Goals as goal

pub least_by_change-requires-clause-told : goal.least_by_change-requires-clause-told
least_by_change-requires-clause-told g c =
    let db = g.V.StoreView.db c.args.after.now in
    let changes = c.args.changes.now in
    let at = c.loop-change.change-index in
    let own = c.change-item.result in
    let own_is : slice_get changes at ≡ Some own = slice_get_read changes _ at own refl c.loop-change-test.true c.change-item.is in
    all-at (λ (change : Change). change.after ≡ row_of db change.name) changes c.requires.told at own own_is

pub loop-change-preserved : goal.loop-change-preserved
loop-change-preserved g c =
    let db = g.V.StoreView.db c.args.after.now in
    let test = breaks_at (breaks_by Reference db) db in
    let changes = c.args.changes.now in
    let at = c.loop-change.change-index in
    let own = c.change-item.result in
    let own_is : slice_get changes at ≡ Some own = slice_get_read changes _ at own refl c.loop-change-test.true c.change-item.is in
    let step = c.in_ok-least.ensures {u = tt} in
    record {
      further = further_then test None c.loop-change.least c.in_ok-least.least c.loop-change.invariant.further step.further;
      came = λ place change within is name came breaks.
          elim (cases_lt place at) [
            | inl before ↦ step.further.still name (c.loop-change.invariant.came place change before is name came breaks)
            | inr not_before ↦
                let here : place ≡ at = omega arith in
                let same : own ≡ change = same-place changes at own change own_is (ap (slice_get changes) (sym here) ∙ is) in
                step.came name (subst (λ (other : Change). IsWhatCame other name) (sym same) came) breaks
          ];
      taken = λ place change within is taken name refers.
          elim (cases_lt place at) [
            | inl before ↦ step.further.still name (c.loop-change.invariant.taken place change before is taken name refers)
            | inr not_before ↦
                let here : place ≡ at = omega arith in
                let same : own ≡ change = same-place changes at own change own_is (ap (slice_get changes) (sym here) ∙ is) in
                step.taken (ap is_taken same ∙ taken) name (subst (λ (other : Change). RefersTo db other.name name) (sym same) refers)
          ];
    }

pub returns : goal.returns
returns g c = λ before ordered_before schema lead none.
    let db = g.V.StoreView.db c.args.after.now in
    let changes = c.args.changes.now in
    let least = c.loop-change.least in
    let first = reference_least before db changes lead ordered_before (g.met.V.StoreView.ordered c.args.after.now) schema none least c.loop-change.invariant.further
    (λ place change is name came breaks. let within = place-lt changes place change is in c.loop-change.invariant.came place change (omega arith) is name came breaks)
    (λ place change is taken name refers. let within = place-lt changes place change is in c.loop-change.invariant.taken place change (omega arith) is taken name refers) in
    subst (λ (told : Option Refusal). IfOk c.refusal_at.result (λ first. first ≡ told))
    (ap (λ (s : Schema). refusal_at (refused_by Reference) s least) c.schema.ensures ∙ sym first) c.refusal_at.ensures
