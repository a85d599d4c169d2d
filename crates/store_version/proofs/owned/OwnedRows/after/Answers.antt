use Rattle.std.proofs.Common.{◌∙◌, ap, subst, sym}
use Rattle.own_model.specs.Db.{Db, IsOrdered}
use Rattle.move_model.specs.Moves.{AreMovesOf}
use Rattle.owner_index.specs.Before.{IsBefore}
use Rattle.owner_index.specs.Held.{StandsFor}
use Rattle.state_model.specs.LeadTo.{LeadTo}
use Rattle.state_model.specs.Put.{put}
use Rattle.store_version.proofs.PutLemmas.{ordered-put, tell_leads}
use Rattle.store_version.proofs.owned.OwnedRows.after.Goals as goal

pub invariant_of-left : goal.invariant_of-left
invariant_of-left c =
    let made = c.in_ok-rows.ensures ∙ ap (λ (db : Db). put db c.args.changes.now) c.self.view_is in
    record { ordered = subst IsOrdered (sym made) (ordered-put c.args.self.now c.args.changes.now c.requires.ordered c.requires.tells.may) }

-- the owner sets follow those of before the changes
pub invariant_of-owned : goal.invariant_of-owned
invariant_of-owned c =
    let made = c.in_ok-rows.ensures ∙ ap (λ (db : Db). put db c.args.changes.now) c.self.view_is in
    let before : IsBefore c.args.self.now c.in_ok-rows.rows c.args.changes.now c.self.inside.owners =
    record {
      ordered = c.requires.ordered;
      schema = ap (λ (db : Db). db.schema) made;
      leads = subst (λ after. LeadTo c.args.self.now after c.args.changes.now) (sym made) (tell_leads c.args.self.now c.args.changes.now c.requires.ordered c.requires.tells);
      stands = subst (λ db. StandsFor db c.self.inside.owners) c.self.view_is c.self.invariant;
    } in
    c.in_ok-owners.ensures.stands c.args.self.now before

pub returns-clause-moves : goal.returns-clause-moves
returns-clause-moves c =
    let made = c.in_ok-rows.ensures ∙ ap (λ (db : Db). put db c.args.changes.now) c.self.view_is in
    let before : IsBefore c.args.self.now c.in_ok-rows.rows c.args.changes.now c.self.inside.owners =
    record {
      ordered = c.requires.ordered;
      schema = ap (λ (db : Db). db.schema) made;
      leads = subst (λ after. LeadTo c.args.self.now after c.args.changes.now) (sym made) (tell_leads c.args.self.now c.args.changes.now c.requires.ordered c.requires.tells);
      stands = subst (λ db. StandsFor db c.self.inside.owners) c.self.view_is c.self.invariant;
    } in
    subst (λ after. AreMovesOf c.args.self.now after c.in_ok-owners.moves) made (c.in_ok-owners.ensures.moves c.args.self.now before)
