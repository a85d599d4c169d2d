use Rattle.std.proofs.Common.{List, subst, sym}
use Rattle.own_model.specs.Db.{Db, IsOrdered}
use Rattle.annot_schema.specs.Created.{IsAdmissible}
use Rattle.micro_db.specs.declared.micro.MicroDb.{MicroDb}
use Rattle.micro_db.specs.Kept.{StandsFor}
use Rattle.state_model.specs.Sound.{IsWellFormed}
use Rattle.view_deltas.specs.declared.kept_view.KeptView.{KeptView}
use Rattle.view_select.specs.ShowsViews.{ShowsViews}
use Rattle.view_select.proofs.WellFormedViews.{views_of-created}
use Rattle.store_version.specs.Added.{db_with}
use Rattle.store_version.proofs.CreatedShelves.{kept-with}
use Rattle.store_version.proofs.ViewsKept.{stands-with}
use Rattle.store_version.proofs.preparing.prepare_table.Goals as goal

pub with_table-requires-clause-ordered : goal.with_table-requires-clause-ordered
with_table-requires-clause-ordered c = subst IsOrdered (sym c.version.view_is) c.requires.well_formed.ordered

-- a table without rows leaves what is kept of each subject, and for each view
pub invariant_of-result : goal.invariant_of-result
invariant_of-result c =
    let owned = c.version.inside.owned in
    let is = subst IsWellFormed (sym c.version.view_is) c.requires.well_formed in
    let by = subst (λ (db : Db). IsAdmissible db.schema c.args.admitted) (sym c.version.view_is) c.requires.admissible in (
      subst (λ (db : Db). StandsFor db c.in_ok-micro.micro) (sym c.in_ok-owned.ensures.rows)
          (subst (λ (micro : MicroDb). StandsFor (db_with owned c.args.admitted c.args.text) micro) (sym c.in_ok-micro.ensures)
          (kept-with owned c.args.admitted c.args.text c.version.inside.micro is.ordered c.in_ok-owned.ensures.sound.owner by c.version.invariant.0)),
      subst (λ (db : Db). ShowsViews db c.in_ok-views.views) (sym c.in_ok-owned.ensures.rows)
          (subst (λ (kept : List KeptView). ShowsViews (db_with owned c.args.admitted c.args.text) kept) (sym c.in_ok-views.ensures)
          (λ _. stands-with owned c.args.admitted c.args.text (views_of-created owned is.created) c.version.inside.views (c.version.invariant.1 is))),
    )
