use Rattle.std.proofs.Common.{◌≡◌, List, sym, ◌∙◌, subst}
use Rattle.std.proofs.lemmas.Result.{IfOk-weaker}
use Rattle.std.specs.List.{AllByRecursion}
use Rattle.own_base.specs.declared.change.Change.{Change}
use Rattle.owner_model.specs.Joins.{row_of}
use Rattle.subject_model.specs.Forget.{forget}
use Rattle.state_model.specs.MayBePut.{MayBePut}
use Rattle.state_model.specs.Put.{put}
use Rattle.state_model.proofs.CreatedSchema.{owner_schema-created}
use Rattle.subject_erase.specs.Plan.{IsPlan, plan_of}
use Rattle.subject_erase.proofs.ErasuresPut.{erasures-may, erasures-put}
use Rattle.subject_erase.proofs.PlanLemmas.{erasures-plan, erasures-was}
use Rattle.shelf_erase.proofs.ErasedNames.{are_erasures}
use Rattle.shelf_erase.proofs.erase.erase_changes.Goals as goal

pub returns-clause-was : goal.returns-clause-was
returns-clause-was g c =
    let db = g.V.StoreView.db c.args.view.now in
    let ordered = c.requires.sound.well_formed.ordered in
    let owner = owner_schema-created db c.requires.sound.well_formed.created in
    let subject = c.args.subject.now.0 in
    let P : List Change → Type 0 = AllByRecursion (λ change. change.before ≡ row_of db change.name) in
    IfOk-weaker c.to_list.result _ P
    (λ changes is. subst P (sym (is ∙ are_erasures db subject ordered c.in_ok-changes.changes c.to_list.ensures.rising c.in_ok-changes.ensures)) (erasures-was db subject ordered owner)) c.to_list.ensures.all

pub returns-clause-may : goal.returns-clause-may
returns-clause-may g c =
    let db = g.V.StoreView.db c.args.view.now in
    let ordered = c.requires.sound.well_formed.ordered in
    let owner = owner_schema-created db c.requires.sound.well_formed.created in
    let subject = c.args.subject.now.0 in
    let P : List Change → Type 0 = MayBePut db.schema.tables in
    IfOk-weaker c.to_list.result _ P
    (λ changes is. subst P (sym (is ∙ are_erasures db subject ordered c.in_ok-changes.changes c.to_list.ensures.rising c.in_ok-changes.ensures)) (erasures-may db subject owner ordered)) c.to_list.ensures.all

pub returns-clause-put : goal.returns-clause-put
returns-clause-put g c =
    let db = g.V.StoreView.db c.args.view.now in
    let ordered = c.requires.sound.well_formed.ordered in
    let owner = owner_schema-created db c.requires.sound.well_formed.created in
    let subject = c.args.subject.now.0 in
    let P : List Change → Type 0 = λ changes. put db changes ≡ forget db subject in
    IfOk-weaker c.to_list.result _ P
    (λ changes is. subst P (sym (is ∙ are_erasures db subject ordered c.in_ok-changes.changes c.to_list.ensures.rising c.in_ok-changes.ensures)) (erasures-put db subject owner ordered)) c.to_list.ensures.all

pub returns-clause-plan : goal.returns-clause-plan
returns-clause-plan g c =
    let db = g.V.StoreView.db c.args.view.now in
    let ordered = c.requires.sound.well_formed.ordered in
    let owner = owner_schema-created db c.requires.sound.well_formed.created in
    let subject = c.args.subject.now.0 in
    let P : List Change → Type 0 = λ changes. IsPlan db subject (plan_of changes) in
    IfOk-weaker c.to_list.result _ P
    (λ changes is. subst P (sym (is ∙ are_erasures db subject ordered c.in_ok-changes.changes c.to_list.ensures.rising c.in_ok-changes.ensures)) (erasures-plan db subject ordered owner)) c.to_list.ensures.all
