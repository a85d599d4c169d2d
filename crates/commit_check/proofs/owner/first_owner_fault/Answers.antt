use Rattle.std.proofs.Common.{◌≡◌, ◌≤◌, length, refl, sym, ap, ◌∙◌, subst}
use Rattle.std.specs.Prelude.{Some, slice_get}
use Rattle.std.proofs.lemmas.Option.{slice_get_read}
use Rattle.own_model.specs.declared.schema.Schema.{Schema}
use Rattle.state_model.specs.Fault.{owner_faults, owner_rule}
use Rattle.commit_check.proofs.FirstLemmas.{table-end, table-found, table-more}
use Rattle.commit_check.proofs.owner.first_owner_fault.Goals as goal

pub loop-number-preserved : goal.loop-number-preserved
loop-number-preserved g c =
    let db = g.V.StoreView.db c.args.view.now in
    let definition = c.definition-item.result in
    let is : slice_get db.schema.tables c.loop-number.number ≡ Some definition =
    subst (λ tables. slice_get tables c.loop-number.number ≡ Some definition) (c.items-definition-items.ensures ∙ ap (λ (s : Schema). s.tables) c.schema.ensures)
    (slice_get_read c.items-definition-items.result.now _ c.loop-number.number definition refl c.loop-number-test.true c.definition-item.is) in
    table-more (owner_rule db) db c.loop-number.number c.loop-number.invariant definition is (sym c.in_ok-fault.ensures ∙ c.in_default.is)

pub returns-in-Some : goal.returns-in-Some
unfolding owner_faults
returns-in-Some g c =
    let db = g.V.StoreView.db c.args.view.now in
    let definition = c.definition-item.result in
    let is : slice_get db.schema.tables c.loop-number.number ≡ Some definition =
    subst (λ tables. slice_get tables c.loop-number.number ≡ Some definition) (c.items-definition-items.ensures ∙ ap (λ (s : Schema). s.tables) c.schema.ensures)
    (slice_get_read c.items-definition-items.result.now _ c.loop-number.number definition refl c.loop-number-test.true c.definition-item.is) in
    sym (table-found (owner_rule db) db c.loop-number.number c.loop-number.invariant definition _ is (sym c.in_ok-fault.ensures ∙ c.in-Some.is))

pub returns : goal.returns
unfolding owner_faults
returns g c =
    let db = g.V.StoreView.db c.args.view.now in
    let past : length db.schema.tables ≤ c.loop-number.number =
    subst (λ n. n ≤ c.loop-number.number) (ap length (c.items-definition-items.ensures ∙ ap (λ (s : Schema). s.tables) c.schema.ensures)) c.loop-number-test.false in
    sym (table-end (owner_rule db) db c.loop-number.number c.loop-number.invariant past)
