use Rattle.std.proofs.Common.{◌≡◌, ◌++◌, ◌∙◌, sym, subst}
use Rattle.std.specs.Prelude.{IfOk, None, Option}
use Rattle.own_model.specs.declared.refusal.Refusal.{Refusal}
use Rattle.state_model.specs.Fault.{first_of, owner_faults, reference_faults, unique_faults}
use Rattle.state_model.proofs.Faultless.{faultless-from}
use Rattle.commit_check.proofs.FirstLemmas.{first-before, first-behind}
use Rattle.commit_judge.proofs.judge.first_row_fault.Goals as goal

-- a value of a UNIQUE column that another row holds comes first
pub returns-in-Some : goal.returns-in-Some
returns-in-Some g c = λ before ordered schema leads moves none.
    let db = g.V.StoreView.db c.args.after.now in
    let is = c.in_ok-unique.ensures before ordered schema leads (faultless-from before none).unique in
    sym (first-before (unique_faults db ++ reference_faults db) (owner_faults db) _ (first-before (unique_faults db) (reference_faults db) _ (sym is ∙ c.in-Some.is)))

-- else a reference that names no row
pub returns-in-Some-2 : goal.returns-in-Some-2
returns-in-Some-2 g c = λ before ordered schema leads moves none.
    let db = g.V.StoreView.db c.args.after.now in
    let one = c.in_ok-unique.ensures before ordered schema leads (faultless-from before none).unique in
    let is = c.in_ok-reference.ensures before ordered schema leads (faultless-from before none).reference in
    sym (first-before (unique_faults db ++ reference_faults db) (owner_faults db) _ (first-behind (unique_faults db) (reference_faults db) (sym one ∙ c.in_default.is) ∙ (sym is ∙ c.in-Some-2.is)))

-- else a row without an owner
pub returns : goal.returns
returns g c = λ before ordered schema leads moves none.
    let db = g.V.StoreView.db c.args.after.now in
    let one = c.in_ok-unique.ensures before ordered schema leads (faultless-from before none).unique in
    let two = c.in_ok-reference.ensures before ordered schema leads (faultless-from before none).reference in
    let behind : first_of (unique_faults db ++ reference_faults db) ≡ None = first-behind (unique_faults db) (reference_faults db) (sym one ∙ c.in_default.is) ∙ (sym two ∙ c.in_default-2.is) in
    subst (λ (found : Option Refusal). IfOk c.first_owner_fault_by.result (λ first. first ≡ found)) (sym (first-behind (unique_faults db ++ reference_faults db) (owner_faults db) behind))
    (c.first_owner_fault_by.ensures before ordered schema leads moves (faultless-from before none).owner)
