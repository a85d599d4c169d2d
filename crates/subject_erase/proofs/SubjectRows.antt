-- No owner edge goes out of a subject row, so it has no owner but itself.
use Rattle.std.proofs.Common.{◌≡◌, [], ◌∷◌, true, false, refl, ap, sym, ◌∙◌, subst, eq-eqb}
use Rattle.std.specs.Prelude.{◌==◌, ◌&&◌}
use Rattle.std.proofs.lemmas.Bool.{and_from, and_parts}
use Rattle.own_base.specs.declared.number.TableNo.{TableNo}
use Rattle.own_base.specs.declared.row_name.RowName.{RowName}
use Rattle.own_model.specs.declared.schema.Edge.{Edge}
use Rattle.own_model.specs.Db.{Db, IsOrdered}
use Rattle.owner_model.specs.Joins.{Joins}
use Rattle.schema_model.specs.OwnerSchema.{IsOwnerSchema}
use Rattle.schema_model.specs.Tables.{is_private, is_subject}
use Rattle.subject_model.specs.Named.{is_there}
use Rattle.subject_model.specs.Owners.{IsOwnerPath, owns}
use Rattle.subject_model.specs.Paths.{IsPath, Path, is_subject_row}
use Rattle.subject_model.proofs.FirstSubject.{owns_itself}
use Rattle.subject_model.proofs.Members.{any_contained}
use Rattle.subject_model.proofs.OwnerLemmas.{from_owns, owns_from}

module _ (db : Db) (owner : IsOwnerSchema db.schema) where
  -- a subject row is of a table of data subjects
  pub subject_table : (name : RowName) → is_subject_row db name ≡ true → is_subject db.schema name.table.0 ≡ true
  unfolding is_subject_row
  subject_table name is = (and_parts (is_subject db.schema name.table.0) (is_there db name) is).0

  -- an owner edge makes the table that it goes out of private
  pub private-joined : (name : RowName) (edge : Edge) (upper : RowName) → Joins db name edge upper → edge.owner ≡ true → is_private db.schema name.table.0 ≡ true
  private-joined name edge upper joined owns =
      any_contained (λ (e : Edge). e.owner && e.lower.0 == name.table.0) db.schema.edges edge joined.among
      (and_from edge.owner (edge.lower.0 == name.table.0) owns (eq-eqb edge.lower.0 name.table.0 (ap (λ (t : TableNo). t.0) (sym joined.of_lower))))

  -- and that is no table of data subjects
  pub no_owner_edge : (name : RowName) (edge : Edge) (upper : RowName) → is_subject_row db name ≡ true → Joins db name edge upper → edge.owner ≡ true → ⊥
  no_owner_edge name edge upper is joined owns =
      let public : is_private db.schema name.table.0 ≡ false = owner.subjects name.table.0 (subject_table name is) in
      let private : is_private db.schema name.table.0 ≡ true = private-joined name edge upper joined owns in
      let never : true ≡ false = sym private ∙ public in
      cc

  -- so a path of owner edges from a subject row has no step
  pub owner_path-ends : (name : RowName) (path : Path) (subject : RowName) → is_subject_row db name ≡ true → IsPath db name path subject → IsOwnerPath path → path ≡ []
  owner_path-ends name [] subject is leads owns = refl
  owner_path-ends name (step ∷ rest) subject is leads owns = absurd (no_owner_edge name step.edge step.upper is leads.0 owns.0)

  last_is : (name : RowName) (path : Path) (subject : RowName) → path ≡ [] → IsPath db name path subject → name ≡ subject
  last_is name path subject none leads = let own : IsPath db name [] subject = subst (λ p. IsPath db name p subject) none leads in own.1

  -- who owns a subject row is it
  pub owned-itself : (subject name : RowName) → is_subject_row db name ≡ true → owns db subject name ≡ true → name ≡ subject
  owned-itself subject name is owned =
      let by = owns_from db subject name owned in
      last_is name by.path subject (owner_path-ends name by.path subject is by.leads by.owner) by.leads

  -- and it owns itself
  pub itself-owned : (subject name : RowName) → IsOrdered db → is_subject_row db name ≡ true → name ≡ subject → owns db subject name ≡ true
  itself-owned subject name ordered is same =
      subst (λ (s : RowName). owns db s name ≡ true) same (from_owns db name name ordered owner (owns_itself db name is))
