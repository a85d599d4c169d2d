use Rattle.std.proofs.Common.{◌∙◌, [], ◌∷◌, ap, subst, sym}
use Rattle.std.proofs.lemmas.Result.{IfOk-weaker}
use Rattle.own_model.specs.Db.{Db}
use Rattle.state_model.specs.LeadTo.{LeadTo}
use Rattle.state_model.specs.Put.{put}
use Rattle.state_model.specs.Sound.{IsWellFormed}
use Rattle.ref_index.specs.Tells.{Tell}
use Rattle.view_deltas.specs.Kept.{StandsFor}
use Rattle.view_select.specs.ShowsViews.{ShowsViews}
use Rattle.view_select.proofs.WellFormedViews.{no_sums, views_of-created}
use Rattle.store_version.specs.AreFew.{AreFew}
use Rattle.store_version.proofs.Laid.{laid}
use Rattle.store_version.proofs.PutLemmas.{tell_leads}
use Rattle.store_version.proofs.preparing.views_after.Goals as goal

-- the views are those that the version had
pub with_changes-requires-clause-views : goal.with_changes-requires-clause-views
with_changes-requires-clause-views c = views_of-created c.version.inside.owned (subst IsWellFormed (sym c.version.view_is) c.requires.well_formed).created

-- what is kept for each view follows what was kept before the change
pub returns : goal.returns
returns c =
    let db = c.version.inside.owned in
    let one = c.args.change.now ∷ [] in
    let changes = c.from_ref-changes.result.now in
    let is = subst IsWellFormed (sym c.version.view_is) c.requires.well_formed in
    let tells = subst (λ list. Tell db list) (sym c.from_ref-changes.ensures.value) (subst (λ (db : Db). Tell db one) (sym c.version.view_is) c.requires.tells) in
    let few = subst (λ (db : Db). AreFew db.rows) (sym c.version.view_is) c.requires.few in
    let over = c.over-after.ensures ∙ laid db changes _ _ is.ordered few c.new-space.ensures.nothing c.in_ok-put.ensures.put in
    let made = over ∙ ap (put db) c.from_ref-changes.ensures.value ∙ ap (λ (db : Db). put db one) c.version.view_is in
    let leads = subst (λ (after : Db). LeadTo db after changes) (sym over) (tell_leads db changes is.ordered tells) in
    IfOk-weaker c.with_changes.result _ (λ views. ShowsViews (put c.args.version.now one) views)
    (λ kept stands whole. subst (λ (after : Db). StandsFor after kept) made (stands (no_sums db is) (no_sums _ (subst IsWellFormed (sym made) whole)) leads (c.version.invariant.1 is)))
    c.with_changes.ensures
