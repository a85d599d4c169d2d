use Rattle.std.proofs.Common.{◌≡◌, List, sym, ◌∙◌, subst}
use Rattle.std.proofs.lemmas.Result.{IfOk-weaker}
use Rattle.std.specs.List.{AllByRecursion}
use Rattle.own_base.specs.declared.change.Change.{Change}
use Rattle.owner_model.specs.Joins.{row_of}
use Rattle.subject_model.specs.Forget.{forget}
use Rattle.subject_model.specs.Stays.{stays}
use Rattle.state_model.specs.MayBePut.{MayBePut}
use Rattle.state_model.specs.Put.{put}
use Rattle.subject_erase.specs.Flags.{AreFlagsOf}
use Rattle.subject_erase.specs.Losing.{erased_rows}
use Rattle.subject_erase.specs.Plan.{IsPlan, plan_of}
use Rattle.subject_erase.proofs.ErasedRows.{erased-rows}
use Rattle.subject_erase.proofs.ErasuresPut.{erasures-may, erasures-put}
use Rattle.subject_erase.proofs.PlanLemmas.{erasures-plan, erasures-was}
use Rattle.subject_erase.proofs.erase.erase_changes.Goals as goal

pub returns-clause-may : goal.returns-clause-may
returns-clause-may g c =
    let db = g.V.StoreView.db c.args.view.now in
    let ordered = g.met.V.StoreView.ordered c.args.view.now in
    let subject = c.args.subject.now.0 in
    let staying = c.items.result.now in
    let stay = subst (λ flags. AreFlagsOf db (stays db subject) flags) (sym c.items.ensures) c.in_ok-staying.ensures in
    let P : List Change → Type 0 = MayBePut db.schema.tables in
    IfOk-weaker c.erased_rows.result (λ changes. changes ≡ erased_rows db.schema db.rows staying c.in_ok-by.by) P
    (λ changes is. subst P (sym (is ∙ erased-rows db subject ordered c.requires.owner c.requires.limits c.requires.rows staying c.in_ok-by.by stay c.in_ok-by.ensures)) (erasures-may db subject c.requires.owner ordered))
    c.erased_rows.ensures

pub returns-clause-put : goal.returns-clause-put
returns-clause-put g c =
    let db = g.V.StoreView.db c.args.view.now in
    let ordered = g.met.V.StoreView.ordered c.args.view.now in
    let subject = c.args.subject.now.0 in
    let staying = c.items.result.now in
    let stay = subst (λ flags. AreFlagsOf db (stays db subject) flags) (sym c.items.ensures) c.in_ok-staying.ensures in
    let P : List Change → Type 0 = λ changes. put db changes ≡ forget db subject in
    IfOk-weaker c.erased_rows.result (λ changes. changes ≡ erased_rows db.schema db.rows staying c.in_ok-by.by) P
    (λ changes is. subst P (sym (is ∙ erased-rows db subject ordered c.requires.owner c.requires.limits c.requires.rows staying c.in_ok-by.by stay c.in_ok-by.ensures)) (erasures-put db subject c.requires.owner ordered))
    c.erased_rows.ensures

pub returns-clause-plan : goal.returns-clause-plan
returns-clause-plan g c =
    let db = g.V.StoreView.db c.args.view.now in
    let ordered = g.met.V.StoreView.ordered c.args.view.now in
    let subject = c.args.subject.now.0 in
    let staying = c.items.result.now in
    let stay = subst (λ flags. AreFlagsOf db (stays db subject) flags) (sym c.items.ensures) c.in_ok-staying.ensures in
    let P : List Change → Type 0 = λ changes. IsPlan db subject (plan_of changes) in
    IfOk-weaker c.erased_rows.result (λ changes. changes ≡ erased_rows db.schema db.rows staying c.in_ok-by.by) P
    (λ changes is. subst P (sym (is ∙ erased-rows db subject ordered c.requires.owner c.requires.limits c.requires.rows staying c.in_ok-by.by stay c.in_ok-by.ensures)) (erasures-plan db subject ordered c.requires.owner))
    c.erased_rows.ensures

pub returns-clause-was : goal.returns-clause-was
returns-clause-was g c =
    let db = g.V.StoreView.db c.args.view.now in
    let ordered = g.met.V.StoreView.ordered c.args.view.now in
    let subject = c.args.subject.now.0 in
    let staying = c.items.result.now in
    let stay = subst (λ flags. AreFlagsOf db (stays db subject) flags) (sym c.items.ensures) c.in_ok-staying.ensures in
    let P : List Change → Type 0 = AllByRecursion (λ change. change.before ≡ row_of db change.name) in
    IfOk-weaker c.erased_rows.result (λ changes. changes ≡ erased_rows db.schema db.rows staying c.in_ok-by.by) P
    (λ changes is. subst P (sym (is ∙ erased-rows db subject ordered c.requires.owner c.requires.limits c.requires.rows staying c.in_ok-by.by stay c.in_ok-by.ensures)) (erasures-was db subject ordered c.requires.owner))
    c.erased_rows.ensures
