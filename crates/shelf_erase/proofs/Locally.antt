-- Which rows stay, told of the rows that a subject owns: each other row stays.
use Rattle.std.proofs.Common.{◌≡◌, [], ◌∷◌, Bool, true, false, inl, inr, refl, ap, sym, ◌∙◌, subst}
use Rattle.std.specs.Prelude.{◌≢◌, ◌⊎◌, ◌&&◌, ◌==◌}
use Rattle.std.proofs.lemmas.Bool.{and_from, and_parts, eqb-true, false_from_ne_true}
use Rattle.own_base.specs.declared.row_name.RowName.{RowName}
use Rattle.own_model.specs.declared.schema.Edge.{Edge}
use Rattle.own_model.specs.Db.{Db, IsOrdered}
use Rattle.owner_model.specs.Joins.{Joins}
use Rattle.schema_model.specs.OwnerSchema.{IsOwnerSchema}
use Rattle.schema_model.specs.Tables.{is_private, is_subject}
use Rattle.subject_model.specs.Named.{is_there}
use Rattle.subject_model.specs.Owners.{IsOwnerPath, Owns}
use Rattle.subject_model.specs.Paths.{IsPath, Path, is_subject_row}
use Rattle.subject_model.specs.Staying.{Claimed, IsFree, Stays, Struck}
use Rattle.subject_model.specs.Stays.{stays, struck}
use Rattle.subject_model.proofs.FirstSubject.{owns_itself}
use Rattle.subject_model.proofs.Members.{all_contained, contains_any}
use Rattle.subject_model.proofs.JoinsLemmas.{same_table}
use Rattle.subject_model.proofs.OwnerLemmas.{from_owns}
use Rattle.subject_model.proofs.StayLemmas.{from_stays, stays_from, struck_from}
use Rattle.state_model.specs.Consistent.{IsConsistent}
use Rattle.subject_erase.proofs.ClaimedLocal.{held_locally, locally_held}
use Rattle.subject_erase.proofs.SubjectRows.{no_owner_edge, owned-itself, owner_path-ends, private-joined}
use Rattle.shelf_erase.proofs.Strikes.{StrikeAsOwners, StrikesAsOwner}

-- an owner edge joins the row to one that stays and has an owner
pub record KeptAbove (db : Db) (subject name : RowName) : Type 0 where
  pub edge : Edge
  pub upper : RowName
  pub joined : Joins db name edge upper
  pub owner : edge.owner ≡ true
  pub stay : stays db subject upper ≡ true
  pub by : RowName
  pub owned : Owns db by upper

module _ (db : Db) (subject : RowName) (ordered : IsOrdered db) (owner : IsOwnerSchema db.schema) (of_subjects : is_subject db.schema subject.table.0 ≡ true) where
  -- over an owner edge a subject owns the lower row as it owns the upper one
  pub owns_below : (by name : RowName) (edge : Edge) (upper : RowName) → Joins db name edge upper → edge.owner ≡ true → Owns db by upper → Owns db by name
  owns_below by name edge upper joined gives own = record {
    path = record { edge = edge; upper = upper } ∷ own.path;
    leads = (joined, ((λ is. owner_path-ends db owner upper own.path by is own.leads own.owner), own.leads));
    owner = (gives, own.owner);
  }

  -- the subject's own row, where it is there
  pub itself_there : (name : RowName) → name ≡ subject → is_there db name ≡ true → is_subject_row db name ≡ true
  unfolding is_subject_row
  itself_there name same there = and_from _ _ (ap (λ (n : RowName). is_subject db.schema n.table.0) same ∙ of_subjects) there

  -- no owner path leads from it to another subject
  itself_alone : (path : Path) (other : RowName) → is_there db subject ≡ true → IsPath db subject path other → IsOwnerPath path → other ≢ subject → ⊥
  itself_alone path other there leads gives differs =
      let own : is_subject_row db subject ≡ true = itself_there subject refl there in
      let none : path ≡ [] = owner_path-ends db owner subject path other own leads gives in
      let here : IsPath db subject [] other = subst (λ p. IsPath db subject p other) none leads in
      differs (sym here.1)

  path_there : (name : RowName) (path : Path) (other : RowName) → IsPath db name path other → is_there db name ≡ true
  unfolding is_subject_row
  path_there name [] other leads = (and_parts (is_subject db.schema name.table.0) (is_there db name) leads.0).1
  path_there name (step ∷ rest) other leads = leads.0.lower_there

  -- a row that another subject holds stays
  pub claimed-stays : (name : RowName) → Claimed db subject name → stays db subject name ≡ true
  claimed-stays name held =
      from_stays db subject name ordered owner
      (record {
        other = λ same.
            let there : is_there db subject ≡ true = ap (is_there db) (sym same) ∙ path_there name held.path held.other held.leads in
            itself_alone held.path held.other there (subst (λ n. IsPath db n held.path held.other) same held.leads) held.owner held.differs;
        kept = inr held;
      })

  module _ (strikes : StrikeAsOwners db.schema) where
    strikes_as : (name : RowName) (edge : Edge) (upper : RowName) → Joins db name edge upper → edge.strike ≡ true → edge.owner ≡ true
    strikes_as name edge upper joined = all_contained StrikesAsOwner db.schema.edges edge strikes joined.among

    -- a struck row is the subject's
    pub struck-owned : (name : RowName) → struck db subject name ≡ true → Owns db subject name
    struck-owned name is =
        let by : Struck db subject name = struck_from db subject name is in
        owns_below subject name by.edge by.upper by.joined (strikes_as name by.edge by.upper by.joined by.strikes) by.owned

    -- so no row of an owner path is struck from a row that isn't the subject's
    free_path : (name : RowName) (path : Path) (other : RowName) → IsPath db name path other → IsOwnerPath path → ¬ (Owns db subject name) → IsFree db subject name path
    free_path name [] other leads gives none = (false_from_ne_true (struck db subject name) (λ is. none (struck-owned name is)), tt)
    free_path name (step ∷ rest) other leads gives none =
        let later : IsFree db subject step.upper rest = free_path step.upper rest other leads.1.1 gives.1 (λ own. none (owns_below subject name step.edge step.upper leads.0 gives.0 own)) in
        (false_from_ne_true (struck db subject name) (λ is. none (struck-owned name is)), (later.0, later.1))

    -- a row that stays and has an owner is held by another subject
    owned-claimed : (name by : RowName) → Stays db subject name → (path : Path) → IsPath db name path by → IsOwnerPath path
        → (is_private db.schema name.table.0 ≡ false) ⊎ Claimed db subject name → Claimed db subject name
    owned-claimed name by stay path leads gives (inr held) = held
    owned-claimed name by stay [] leads gives (inl public) = record {
      other = name;
      differs = stay.other;
      path = [];
      leads = (leads.0, refl);
      owner = tt;
      free = (
        false_from_ne_true (struck db subject name) (λ is.
            let by : Struck db subject name = struck_from db subject name is in
            no_owner_edge db owner name by.edge by.upper leads.0 by.joined (strikes_as name by.edge by.upper by.joined by.strikes)),
        tt,
      );
    }
    owned-claimed name by stay (step ∷ rest) leads gives (inl public) =
        let never : true ≡ false = sym (private-joined db owner name step.edge step.upper leads.0 gives.0) ∙ public in cc

    pub stays-claimed : (name by : RowName) → stays db subject name ≡ true → Owns db by name → Claimed db subject name
    stays-claimed name by is own = let stay = stays_from db subject name is in owned-claimed name by stay own.path own.leads own.owner stay.kept

    -- In a database whose private rows are owned each row stays that isn't the subject's.
    pub others-stay : IsConsistent db → (name : RowName) → is_there db name ≡ true → ¬ (Owns db subject name) → stays db subject name ≡ true
    others-stay consistent name there none = by (is_private db.schema name.table.0) refl
      where
        elsewhere : name ≢ subject
        elsewhere same = none (subst (λ s. Owns db s name) same (owns_itself db name (itself_there name same there)))

        by : (b : Bool) → is_private db.schema name.table.0 ≡ b → stays db subject name ≡ true
        by false public = from_stays db subject name ordered owner (record { other = elsewhere; kept = inl public })
        by true private =
            let (edge, among, passes) = contains_any (λ (e : Edge). e.owner && e.lower.0 == name.table.0) db.schema.edges private in
            let both = and_parts edge.owner (edge.lower.0 == name.table.0) passes in
            let own = consistent.owned name edge there among both.0 (same_table edge.lower name.table (eqb-true edge.lower.0 name.table.0 both.1)) in
            claimed-stays name (record {
              other = own.subject;
              differs = λ same. none (subst (λ s. Owns db s name) same own.owns);
              path = own.owns.path;
              leads = own.owns.leads;
              owner = own.owns.owner;
              free = free_path name own.owns.path own.subject own.owns.leads own.owns.owner none;
            })

    -- A row that the subject owns, but for its own, stays where it isn't struck and an owner edge leads to one that stays and
    -- has an owner.
    pub kept-stays : (name : RowName) → struck db subject name ≡ false → KeptAbove db subject name → stays db subject name ≡ true
    kept-stays name unstruck above =
        claimed-stays name (held_locally db subject name owner (
          unstruck,
          inr (record {
            edge = above.edge;
            upper = above.upper;
            joined = above.joined;
            owner = above.owner;
            claimed = stays-claimed above.upper above.by above.stay above.owned;
          }),
        ))

    pub stays-kept : (name : RowName) → Owns db subject name → stays db subject name ≡ true → (struck db subject name ≡ false) × KeptAbove db subject name
    stays-kept name own is =
        let local = locally_held db subject name (stays-claimed name subject is own) in (
          local.0,
          elim local.1 [
            | inl other ↦ absurd (other.1 (owned-itself db owner subject name other.0 (from_owns db subject name ordered owner own)))
            | inr above ↦ record {
              edge = above.edge;
              upper = above.upper;
              joined = above.joined;
              owner = above.owner;
              stay = claimed-stays above.upper above.claimed;
              by = above.claimed.other;
              owned = record { path = above.claimed.path; leads = above.claimed.leads; owner = above.claimed.owner };
            }
          ],
        )
