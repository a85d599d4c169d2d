-- Changes of lone tables leave what is kept of each row.
use Rattle.std.proofs.Common.{◌≡◌, ℕ, List, [], ◌∷◌, Bool, true, false, not, inl, inr, refl, ap, sym, ◌∙◌, subst, eq-eqb}
use Rattle.std.specs.Prelude.{Contains, IsTrue}
use Rattle.std.specs.List.{list_any}
use Rattle.std.proofs.lemmas.Bool.{and_parts, or_left, or_right}
use Rattle.own_base.specs.declared.change.Change.{Change}
use Rattle.own_base.specs.declared.row_name.RowName.{RowName}
use Rattle.own_base.specs.declared.row_name.Subject.{Subject}
use Rattle.own_model.specs.declared.schema.Edge.{Edge}
use Rattle.own_model.specs.declared.schema.Schema.{Schema}
use Rattle.own_model.specs.Db.{Db, IsOrdered}
use Rattle.owner_model.specs.Joins.{Joins}
use Rattle.schema_model.specs.Lone.{are_lone, is_lone, touches}
use Rattle.schema_model.specs.OwnerSchema.{IsOwnerSchema}
use Rattle.schema_model.specs.Tables.{is_subject}
use Rattle.state_model.specs.LeadTo.{LeadTo}
use Rattle.subject_model.specs.Named.{is_there}
use Rattle.subject_model.specs.Owners.{Reaches, owns, reaches}
use Rattle.subject_model.specs.Paths.{IsPath, Path, is_subject_row}
use Rattle.subject_model.proofs.Members.{all_contained, all_passes, any_contained}
use Rattle.subject_model.proofs.OwnerLemmas.{reaches_from}
use Rattle.move_model.specs.KeepsEdges.{KeepsEdges}
use Rattle.move_model.specs.Standing.{standing}
use Rattle.move_model.specs.Touches.{LeadsUp, Touches, TouchesBy}
use Rattle.move_model.proofs.Untouched.{IsUntouched, untouched_keeps}
use Rattle.owner_index.proofs.LoneLemmas.{lone-moves}
use Rattle.shelf_model.specs.At.{copy_at, seen_at}
use Rattle.shelf_model.specs.Seen.{sees}
use Rattle.micro_db.specs.declared.micro.MicroDb.{MicroDb}
use Rattle.micro_db.specs.Kept.{StandsFor}
use Rattle.micro_db.proofs.RenewLemmas.{stands-still}
use Rattle.micro_db.proofs.StandingSame.{GoesOver, no_copy, no_sight, owning_reaches, same_by, same_copy, same_owns, same_reaches, same_sees, same_sight}

not_true : (b : Bool) → not b ≡ true → b ≡ false
not_true true is = let never : false ≡ true = is in cc
not_true false is = refl

module _ (schema : Schema) (number : ℕ) (lone : is_lone schema number ≡ true) where
  parts : (not (is_subject schema number) ≡ true) × (not (list_any (touches number) schema.edges) ≡ true)
  unfolding is_lone
  parts = and_parts (not (is_subject schema number)) (not (list_any (touches number) schema.edges)) lone

  -- at a lone table there is no edge
  no_edge : (edge : Edge) → Contains schema.edges edge → touches number edge ≡ true → ⊥
  no_edge edge among is =
      let never : true ≡ false = sym (any_contained (touches number) schema.edges edge among is) ∙ not_true (list_any (touches number) schema.edges) parts.1 in cc

-- so nobody reaches a row of it
module _ (db : Db) (subject name : RowName) (owner : IsOwnerSchema db.schema) (ordered : IsOrdered db) (lone : is_lone db.schema name.table.0 ≡ true) where
  no_path : (path : Path) → IsPath db name path subject → ⊥
  unfolding is_subject_row
  no_path [] leads =
      let own : is_subject db.schema name.table.0 ≡ true = (and_parts (is_subject db.schema name.table.0) (is_there db name) leads.0).0 in
      let never : true ≡ false = sym own ∙ not_true (is_subject db.schema name.table.0) (parts db.schema name.table.0 lone).0 in cc
  no_path (step ∷ rest) leads =
      let joined : Joins db name step.edge step.upper = leads.0 in
      no_edge db.schema name.table.0 lone step.edge joined.among (or_left _ _ (eq-eqb step.edge.lower.0 name.table.0 (ap (λ t. t.0) (sym joined.of_lower))))

  unreached : reaches db subject name ≡ false
  unreached = by (reaches db subject name) refl
    where
      by : (b : Bool) → reaches db subject name ≡ b → reaches db subject name ≡ false
      by true is = let way : Reaches db subject name = reaches_from db subject name is in absurd (no_path way.path way.leads)
      by false is = is

  unowned : owns db subject name ≡ false
  unowned = by (owns db subject name) refl
    where
      by : (b : Bool) → owns db subject name ≡ b → owns db subject name ≡ false
      by true is = let never : true ≡ false = sym (owning_reaches db subject name ordered owner is) ∙ unreached in cc
      by false is = is

  unseen : sees db subject name ≡ false
  unseen = rw unreached refl

module _ (before after : Db) (changes : List Change) (ordered : IsOrdered before) (also : IsOrdered after) (owner : IsOwnerSchema before.schema) (schema : after.schema ≡ before.schema)
    (lead : LeadTo before after changes) (lone : IsTrue (are_lone before.schema changes)) where
  owner_after : IsOwnerSchema after.schema
  owner_after = subst IsOwnerSchema (sym schema) owner

  -- each change is of a lone table
  lone_change : (change : Change) → Contains changes change → is_lone after.schema change.name.table.0 ≡ true
  lone_change change among =
      ap (λ (s : Schema). is_lone s change.name.table.0) schema
      ∙ all_contained (λ (change : Change). is_lone before.schema change.name.table.0 ≡ true) changes change (all_passes (λ (change : Change). is_lone before.schema change.name.table.0) changes lone) among

  -- so it touches no row of another table
  untouched : (name : RowName) → is_lone after.schema name.table.0 ≡ false → IsUntouched after changes name
  untouched name edged = record { none = none }
    where
      up : (change : Change) (edge : Edge) → Contains changes change → LeadsUp after change edge name → ⊥
      up change edge among leads =
          no_edge after.schema change.name.table.0 (lone_change change among) edge leads.among
          (or_right _ _ (eq-eqb edge.upper.0 change.name.table.0 (ap (λ t. t.0) (sym leads.of_upper))))

      by_edge : (change : Change) (edge : Edge) → Contains changes change → TouchesBy after change name edge → ⊥
      by_edge change edge among (inl lower) = up change edge among lower.leads
      by_edge change edge among (inr upper) = up change edge among upper.leads

      none : (change : Change) → Contains changes change → Touches after change name → ⊥
      none change among (inl own) =
          let never : true ≡ false = sym (lone_change change among) ∙ (ap (λ (n : RowName). is_lone after.schema n.table.0) own ∙ edged) in cc
      none change among (inr by) = by_edge change by.0 among by.1

  -- each subject stands to each row as it did
  still : (subject : Subject) (name : RowName) → standing before subject.0 name ≡ standing after subject.0 name
  still = stands-still before after (lone-moves before after changes ordered also owner schema lead lone)

  module _ (name : RowName) (keeps : KeepsEdges before after name) (subject : Subject) where
    over : GoesOver before after subject.0 name
    over = record {
      schema = sym schema;
      joins = keeps.still;
      reached = λ edge upper joined reached. sym (same_reaches before after subject.0 upper ordered also owner owner_after (still subject upper)) ∙ reached;
    }

    back : GoesOver after before subject.0 name
    back = record {
      schema = schema;
      joins = keeps.already;
      reached = λ edge upper joined reached. same_reaches before after subject.0 upper ordered also owner owner_after (still subject upper) ∙ reached;
    }

    kept_copy : copy_at before subject.0 name ≡ copy_at after subject.0 name
    kept_copy =
        same_copy before after subject.0 name keeps.row (same_owns before after subject.0 name (still subject name))
        (λ own. same_by before after subject.0 name ordered also owner owner_after over back)

    kept_sight : seen_at before subject.0 name ≡ seen_at after subject.0 name
    kept_sight = same_sight before after subject.0 name keeps.row (same_sees before after subject.0 name (still subject name))

  left_copy : (subject : Subject) (name : RowName) → copy_at before subject.0 name ≡ copy_at after subject.0 name
  left_copy subject name = by (is_lone after.schema name.table.0) refl
    where
      by : (b : Bool) → is_lone after.schema name.table.0 ≡ b → copy_at before subject.0 name ≡ copy_at after subject.0 name
      by true own =
          no_copy before subject.0 name (unowned before subject.0 name owner ordered (ap (λ (s : Schema). is_lone s name.table.0) (sym schema) ∙ own))
          ∙ sym (no_copy after subject.0 name (unowned after subject.0 name owner_after also own))
      by false edged = kept_copy name (untouched_keeps before after changes schema lead name (untouched name edged)) subject

  left_sight : (subject : Subject) (name : RowName) → seen_at before subject.0 name ≡ seen_at after subject.0 name
  left_sight subject name = by (is_lone after.schema name.table.0) refl
    where
      by : (b : Bool) → is_lone after.schema name.table.0 ≡ b → seen_at before subject.0 name ≡ seen_at after subject.0 name
      by true own =
          no_sight before subject.0 name (unseen before subject.0 name owner ordered (ap (λ (s : Schema). is_lone s name.table.0) (sym schema) ∙ own))
          ∙ sym (no_sight after subject.0 name (unseen after subject.0 name owner_after also own))
      by false edged = kept_sight name (untouched_keeps before after changes schema lead name (untouched name edged)) subject

  -- what stood for the one stands for the other
  pub lone-stands : (micro : MicroDb) → StandsFor before micro → StandsFor after micro
  lone-stands micro stands =
      record {
        copies = λ subject name. stands.copies subject name ∙ left_copy subject name;
        sights = λ subject name. stands.sights subject name ∙ left_sight subject name;
      }
