use Rattle.std.proofs.Common.{[], ◌∷◌, subst, sym}
use Rattle.std.specs.Prelude.{IsTrue}
use Rattle.own_model.specs.Db.{Db}
use Rattle.schema_model.specs.Lone.{is_lone}
use Rattle.schema_model.specs.OwnerSchema.{IsOwnerSchema}
use Rattle.state_model.specs.Put.{put}
use Rattle.state_model.specs.Sound.{IsWellFormed}
use Rattle.state_model.proofs.CreatedSchema.{owner_schema-created}
use Rattle.ref_index.specs.Tells.{Tell}
use Rattle.view_select.specs.ShowsViews.{ShowsViews}
use Rattle.store_version.proofs.LoneChange.{kept-lone}
use Rattle.store_version.proofs.preparing.change_viewed.Goals as goal

pub change-requires-clause-owner : goal.change-requires-clause-owner
change-requires-clause-owner c = subst (λ (db : Db). IsOwnerSchema db.schema) (sym c.version.view_is) (owner_schema-created c.args.version.now c.requires.well_formed.created)

-- what is kept of each subject stays, and for the views that is kept which was made
pub invariant_of-version-2 : goal.invariant_of-version-2
invariant_of-version-2 c =
    let same = sym c.version.view_is in
    let owned = c.version.inside.owned in
    let is = subst IsWellFormed same c.requires.well_formed in
    let shows = subst (λ (db : Db). ShowsViews (put db (c.args.change.now ∷ [])) c.in_ok-views.views) same c.in_ok-views.ensures in (
      kept-lone owned c.args.change.now c.version.inside.micro is.ordered (owner_schema-created owned is.created)
          (subst (λ (db : Db). IsTrue (is_lone db.schema c.args.change.now.name.table.0)) same c.requires.lone)
          (subst (λ (db : Db). Tell db (c.args.change.now ∷ [])) same c.requires.tells)
          c.version.invariant.0 c.change.result c.change.new.self c.change.ensures.changed c.change.ensures.unchanged,
      subst (λ (db : Db). ShowsViews db c.in_ok-views.views) (sym c.in_ok-change.ensures.changed) shows,
    )
