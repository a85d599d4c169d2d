use Rattle.std.proofs.Common.{List, ◌∙◌, ap, subst, sym}
use Rattle.own_model.specs.Db.{Db, IsOrdered}
use Rattle.move_model.specs.declared.owner_move.OwnerMove.{OwnerMove}
use Rattle.move_model.specs.Moves.{AreMovesOf}
use Rattle.micro_db.specs.Before.{IsBefore}
use Rattle.micro_db.specs.Kept.{StandsFor}
use Rattle.state_model.specs.LeadTo.{LeadTo}
use Rattle.state_model.specs.Put.{put}
use Rattle.state_model.specs.Sound.{IsWellFormed}
use Rattle.state_model.proofs.CreatedSchema.{owner_schema-created}
use Rattle.schema_model.specs.OwnerSchema.{IsOwnerSchema}
use Rattle.ref_index.specs.Tells.{Tell}
use Rattle.view_select.proofs.WellFormedViews.{no_sums, views_of-created}
use Rattle.store_version.proofs.PutLemmas.{ordered-put, tell_leads}
use Rattle.store_version.proofs.preparing.prepare.Goals as goal

pub after-requires-clause-ordered : goal.after-requires-clause-ordered
after-requires-clause-ordered c = subst IsOrdered (sym c.version.view_is) c.requires.well_formed.ordered

pub after-requires-clause-owner : goal.after-requires-clause-owner
after-requires-clause-owner c = subst (λ (db : Db). IsOwnerSchema db.schema) (sym c.version.view_is) (owner_schema-created c.args.version.now c.requires.well_formed.created)

pub invariant_of-before : goal.invariant_of-before
invariant_of-before c = record { ordered = subst IsOrdered (sym c.version.view_is) c.requires.well_formed.ordered }

-- the views are those that the version had
pub with_changes-requires : goal.with_changes-requires
with_changes-requires c =
    let is = subst IsWellFormed (sym c.version.view_is) c.requires.well_formed in
    record {
      count = (c.version.invariant.1 is).count;
      views = views_of-created c.version.inside.owned is.created;
      same = ap (λ (db : Db). db.schema) c.in_ok-owned.ensures.rows;
    }

pub with_moves-requires : goal.with_moves-requires
with_moves-requires c =
    let same = ap (λ (db : Db). db.schema) (c.in_ok-owned.ensures.rows ∙ ap (λ (db : Db). put db c.args.changes.now) c.version.view_is) in
    subst IsOwnerSchema (sym same) (owner_schema-created c.args.version.now c.requires.well_formed.created)

pub invariant_of-left : goal.invariant_of-left
invariant_of-left c =
    let made = c.in_ok-owned.ensures.rows ∙ ap (λ (db : Db). put db c.args.changes.now) c.version.view_is in
    record { ordered = subst IsOrdered (sym made) (ordered-put c.args.version.now c.args.changes.now c.requires.well_formed.ordered c.requires.tells.may) }

-- what is kept of each subject, and for each view, follows what was kept before the changes
pub invariant_of-next : goal.invariant_of-next
invariant_of-next c =
    let db = c.args.version.now in
    let changes = c.args.changes.now in
    let owned = c.in_ok-owned.owned in
    let moves = c.in_ok-owned.moves in
    let made = c.in_ok-owned.ensures.rows ∙ ap (λ (db : Db). put db changes) c.version.view_is in
    let moved = subst (λ (db : Db). AreMovesOf db (put db changes) moves) c.version.view_is c.in_ok-owned.ensures.moves in
    let before : IsBefore db owned c.items.result.now changes c.version.inside.micro =
    record {
      ordered = c.requires.well_formed.ordered;
      schema = ap (λ (db : Db). db.schema) made;
      leads = subst (λ (after : Db). LeadTo db after changes) (sym made) (tell_leads db changes c.requires.well_formed.ordered c.requires.tells);
      moved = subst (λ (list : List OwnerMove). AreMovesOf db owned list) (sym c.items.ensures) (subst (λ (after : Db). AreMovesOf db after moves) (sym made) moved);
      stands = subst (λ (db : Db). StandsFor db c.version.inside.micro) c.version.view_is c.version.invariant.0;
    } in
    let is = subst IsWellFormed (sym c.version.view_is) c.requires.well_formed in
    let tells = subst (λ (db : Db). Tell db changes) (sym c.version.view_is) c.requires.tells in
    let leads = subst (λ (after : Db). LeadTo c.version.inside.owned after changes) (sym c.in_ok-owned.ensures.rows) (tell_leads c.version.inside.owned changes is.ordered tells) in (
      c.in_ok-micro.ensures db before,
      λ after. c.in_ok-views.ensures (no_sums c.version.inside.owned is) (no_sums owned after) leads (c.version.invariant.1 is),
    )

pub returns-clause-moves : goal.returns-clause-moves
returns-clause-moves c = subst (λ (db : Db). AreMovesOf db (put db c.args.changes.now) c.in_ok-owned.moves) c.version.view_is c.in_ok-owned.ensures.moves
