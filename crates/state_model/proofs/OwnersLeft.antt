-- Each row that stays and had an owner has one after a FORGET.
use Rattle.std.proofs.Common.{◌≡◌, [], ◌∷◌, Bool, true, false, refl, ap, sym, ◌∙◌, subst, eq-eqb}
use Rattle.std.specs.Prelude.{◌&&◌, ◌==◌}
use Rattle.std.proofs.lemmas.Bool.{and_from}
use Rattle.own_base.specs.declared.row_name.RowName.{RowName}
use Rattle.own_model.specs.declared.schema.Edge.{Edge}
use Rattle.own_model.specs.Db.{Db, IsOrdered}
use Rattle.schema_model.specs.OwnerSchema.{IsOwnerSchema}
use Rattle.schema_model.specs.Tables.{is_private, is_subject}
use Rattle.subject_model.specs.Forget.{forget}
use Rattle.subject_model.specs.Named.{is_there}
use Rattle.subject_model.specs.Owners.{IsOwnerPath, Owns, has_owner}
use Rattle.subject_model.specs.Paths.{IsPath, Path, is_subject_row}
use Rattle.subject_model.specs.Stays.{stays}
use Rattle.subject_model.proofs.ForgetJoins.{subject_after, there_after}
use Rattle.subject_model.proofs.ForgetOrder.{ordered-forget}
use Rattle.subject_model.proofs.ForgetPaths.{has_owner-forget}
use Rattle.subject_model.proofs.ForgetRows.{schema-forget}
use Rattle.subject_model.proofs.Members.{any_contained}
use Rattle.subject_model.proofs.OwnerLemmas.{from_owner, owner_from}
use Rattle.state_model.proofs.ForgetWeight.{OwnersStay}

-- an owner path of a step leads out of a private table
leads-private : (db : Db) (name : RowName) (path : Path) (other : RowName) → IsPath db name path other → IsOwnerPath path → is_private db.schema name.table.0 ≡ false
    → is_subject_row db name ≡ true
leads-private db name [] other leads owned public = leads.0
leads-private db name (step ∷ rest) other leads owned public =
    let table : (step.edge.lower.0 == name.table.0) ≡ true = eq-eqb _ _ (ap (λ t. t.0) (sym leads.0.of_lower)) in
    let private : is_private db.schema name.table.0 ≡ true =
    any_contained (λ (edge : Edge). edge.owner && edge.lower.0 == name.table.0) db.schema.edges step.edge leads.0.among (and_from _ _ owned.0 table) in
    let never : true ≡ false = sym private ∙ public in
    cc

module _ (db : Db) (subject : RowName) (ordered : IsOrdered db) (owner : IsOwnerSchema db.schema) (of_subjects : is_subject db.schema subject.table.0 ≡ true) where
  left_step : (name : RowName) → is_there db name ≡ true → stays db subject name ≡ true → has_owner db name ≡ true
      → (private : Bool) → is_private db.schema name.table.0 ≡ private → has_owner (forget db subject) name ≡ true
  left_step name there stay has true private = has_owner-forget db subject ordered owner of_subjects name private stay
  left_step name there stay has false public =
      let (other, owns) = owner_from db name has in
      let row = leads-private db name owns.path other owns.leads owns.owner public in
      let own : Owns (forget db subject) name name = record { path = []; leads = (subject_after db subject owner name row (there_after db subject owner name there stay), refl); owner = tt } in
      from_owner (forget db subject) name (ordered-forget db subject owner ordered) (subst IsOwnerSchema (sym (schema-forget db subject)) owner) (name, own)

  pub owners-stay : OwnersStay db subject
  owners-stay name there stay has = left_step name there stay has _ refl
