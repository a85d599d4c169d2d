use Rattle.std.proofs.Common.{◌≡◌, ℕ, Bool, not, refl, sym, ◌∙◌, subst}
use Rattle.std.specs.Prelude.{◌&&◌, Some, slice_get}
use Rattle.std.proofs.lemmas.Option.{slice_get_read}
use Rattle.own_base.specs.declared.value.Value.{Value}
use Rattle.query_model.specs.Truth.{is_null}
use Rattle.subject_erase.specs.Losing.{loses_by}
use Rattle.subject_erase.proofs.NumberedSteps.{any-found, any-passed}
use Rattle.subject_erase.proofs.losing.loses_some.Goals as goal

pub returns-then-loses_value : goal.returns-then-loses_value
returns-then-loses_value g c =
    let lost : ℕ × Value → Bool = λ numbered. loses_by (g.V.StoreView.db c.args.view.now).schema (g.V.StoreView.db c.args.view.now).rows c.args.staying.now c.args.definition.now c.args.ruled numbered && not (is_null numbered.1) in
    let value = c.value-item.result in
    let is : slice_get c.args.row.now c.loop-number.number ≡ Some value =
    subst (λ values. slice_get values c.loop-number.number ≡ Some value) c.values-value-items.ensures
    (slice_get_read c.values-value-items.result.now _ c.loop-number.number value refl c.loop-number-test.true c.value-item.is) in
    sym (any-found lost c.args.row.now c.loop-number.number value is (sym c.loses_value.ensures ∙ c.if-loses_value.true)) ∙ c.loop-number.invariant

pub loop-number-preserved : goal.loop-number-preserved
loop-number-preserved g c =
    let lost : ℕ × Value → Bool = λ numbered. loses_by (g.V.StoreView.db c.args.view.now).schema (g.V.StoreView.db c.args.view.now).rows c.args.staying.now c.args.definition.now c.args.ruled numbered && not (is_null numbered.1) in
    let value = c.value-item.result in
    let is : slice_get c.args.row.now c.loop-number.number ≡ Some value =
    subst (λ values. slice_get values c.loop-number.number ≡ Some value) c.values-value-items.ensures
    (slice_get_read c.values-value-items.result.now _ c.loop-number.number value refl c.loop-number-test.true c.value-item.is) in
    any-passed lost c.args.row.now c.loop-number.number value is (sym c.loses_value.ensures ∙ c.if-loses_value.false) ∙ c.loop-number.invariant
