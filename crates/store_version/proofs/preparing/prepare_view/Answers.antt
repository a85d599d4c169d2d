use Rattle.std.proofs.Common.{refl, subst, sym}
use Rattle.own_model.specs.Db.{Db, IsOrdered}
use Rattle.micro_db.specs.declared.micro.MicroDb.{MicroDb}
use Rattle.micro_db.specs.Kept.{StandsFor}
use Rattle.state_model.specs.Sound.{IsWellFormed}
use Rattle.view_deltas.specs.ViewOf.{IsViewOf}
use Rattle.view_select.specs.ShowsViews.{ShowsViews}
use Rattle.view_select.proofs.WellFormedViews.{bound-of_view, no_sums}
use Rattle.store_version.specs.Added.{db_viewed}
use Rattle.store_version.proofs.CreatedShelves.{kept-viewed}
use Rattle.store_version.proofs.preparing.prepare_view.Goals as goal

pub invariant_of-before : goal.invariant_of-before
invariant_of-before c = record { ordered = subst IsOrdered (sym c.version.view_is) c.requires.well_formed.ordered }

pub build-requires : goal.build-requires
build-requires c =
    let bound = c.requires.bound in
    subst (λ (db : Db). IsViewOf db.schema c.args.definition) (sym c.version.view_is) (bound-of_view c.args.version.now.schema bound.create bound.most c.args.definition bound.written bound.bound)

-- a view leaves what is kept of each subject, and for each view that there was
pub invariant_of-result : goal.invariant_of-result
invariant_of-result c =
    let owned = c.version.inside.owned in
    let is = subst IsWellFormed (sym c.version.view_is) c.requires.well_formed in (
      subst (λ (db : Db). StandsFor db c.in_ok-micro.micro) (sym c.in_ok-owned.ensures)
          (subst (λ (micro : MicroDb). StandsFor (db_viewed owned c.args.definition c.args.text) micro) (sym c.in_ok-micro.ensures)
          (kept-viewed owned c.args.definition c.args.text c.version.inside.micro c.version.invariant.0)),
      subst (λ (db : Db). ShowsViews db c.in_ok-views.views) (sym c.in_ok-owned.ensures)
          (λ _. c.in_ok-views.ensures (db_viewed owned c.args.definition c.args.text) (no_sums owned is) (record { tables = refl; views = refl; rows = refl }) (c.version.invariant.1 is)),
    )
