use Rattle.std.proofs.Common.{◌≡◌, refl, sym, ◌∙◌, subst}
use Rattle.std.specs.Prelude.{Some, slice_get}
use Rattle.std.proofs.lemmas.Option.{slice_get_read}
use Rattle.subject_erase.proofs.NumberedSteps.{any-found, any-passed}
use Rattle.shelf_erase.specs.Lost.{loses_value}
use Rattle.shelf_erase.proofs.losing.loses_some.Goals as goal

pub returns-then-loses : goal.returns-then-loses
returns-then-loses c =
    let lost = loses_value c.args.removals.now c.args.definition.now c.args.ruled in
    let value = c.value-item.result in
    let is : slice_get c.args.row.now c.loop-number.number ≡ Some value =
    subst (λ values. slice_get values c.loop-number.number ≡ Some value) c.values-value-items.ensures
    (slice_get_read c.values-value-items.result.now _ c.loop-number.number value refl c.loop-number-test.true c.value-item.is) in
    sym (any-found lost c.args.row.now c.loop-number.number value is (sym c.in_ok-loses.ensures ∙ c.if-loses.true)) ∙ c.loop-number.invariant

pub loop-number-preserved : goal.loop-number-preserved
loop-number-preserved c =
    let lost = loses_value c.args.removals.now c.args.definition.now c.args.ruled in
    let value = c.value-item.result in
    let is : slice_get c.args.row.now c.loop-number.number ≡ Some value =
    subst (λ values. slice_get values c.loop-number.number ≡ Some value) c.values-value-items.ensures
    (slice_get_read c.values-value-items.result.now _ c.loop-number.number value refl c.loop-number-test.true c.value-item.is) in
    any-passed lost c.args.row.now c.loop-number.number value is (sym c.in_ok-loses.ensures ∙ c.if-loses.false) ∙ c.loop-number.invariant
