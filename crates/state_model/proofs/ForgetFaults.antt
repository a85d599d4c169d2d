-- A FORGET leaves no fault of a UNIQUE column, of a reference or of an owner where there was none.
use Rattle.std.proofs.Common.{◌≡◌, ℕ, List, [], ◌∷◌, Bool, true, false, refl, ap, sym, subst}
use Rattle.std.specs.Prelude.{◌&&◌, not, Some, Contains, IsTrue, slice_get, if◌then◌else◌}
use Rattle.std.proofs.lemmas.Bool.{not_from_true}
use Rattle.own_base.specs.declared.row_name.RowName.{RowName}
use Rattle.own_base.specs.declared.value.Key.{Key}
use Rattle.own_model.specs.declared.refusal.Refusal.{Refusal}
use Rattle.own_model.specs.declared.refusal.Refusal.TheVariants.{Owner}
use Rattle.own_model.specs.declared.schema.TableDef.{TableDef}
use Rattle.own_model.specs.Db.{Db, IsOrdered, Row, key_of}
use Rattle.schema_model.specs.OwnerSchema.{IsOwnerSchema}
use Rattle.schema_model.specs.Tables.{is_private, is_subject}
use Rattle.subject_model.specs.Forget.{forget, left_in}
use Rattle.subject_model.specs.Named.{name_of}
use Rattle.subject_model.specs.Owners.{has_owner}
use Rattle.subject_model.specs.Stays.{stays}
use Rattle.subject_model.proofs.ForgetKeys.{key_left}
use Rattle.subject_model.proofs.ForgetPaths.{has_owner-forget}
use Rattle.subject_model.proofs.ForgetRows.{contains_left_in, named_in, row_left, rows_get-forget, stays_in}
use Rattle.state_model.specs.Fault.{faults_by, owner_faults, owner_rule, reference_faults, reference_rule, unique_faults, unique_rule}
use Rattle.state_model.proofs.FaultLemmas.{each_row, row_each}
use Rattle.state_model.proofs.ForgetReferences.{reference-left}
use Rattle.state_model.proofs.ForgetUnique.{unique-left}

module _ (db : Db) (subject : RowName) where
  -- A rule finds nothing in what is left where it finds nothing in what is left of each row that stays.
  pub faults-left : (rule : ℕ → TableDef → List Row → Row → List Refusal)
      → ((number : ℕ) (table : TableDef) (rows : List Row) (row : Row) → slice_get db.schema.tables number ≡ Some table → slice_get db.rows number ≡ Some rows → Contains rows row
      → stays_in db subject number table row ≡ true → rule number table (left_in db subject number table rows) (row_left db subject number table row) ≡ [])
      → faults_by rule (forget db subject) ≡ []
  unfolding forget
  faults-left rule each =
      row_each rule (forget db subject) (λ number table rows row is there among.
      let (before, at, left_is) = rows_get-forget db subject number table rows is there in
      let from = contains_left_in db subject number table before row (subst (λ rows. Contains rows row) left_is among) in
      let own : rule number table (left_in db subject number table before) (row_left db subject number table from.row) ≡ [] = each number table before from.row is at from.among from.stays in
      subst (λ rows. rule number table rows row ≡ []) (sym left_is) (subst (λ row. rule number table (left_in db subject number table before) row ≡ []) from.left_is own))

  module _ (owner : IsOwnerSchema db.schema) where
    pub unique_faults-forget : unique_faults db ≡ [] → unique_faults (forget db subject) ≡ []
    unfolding unique_faults
    unique_faults-forget none =
        faults-left unique_rule (λ number table rows row is there among stay.
        unique-left db subject owner number table is rows row (each_row unique_rule db none number table rows row is there among))

    pub reference_faults-forget : reference_faults db ≡ [] → reference_faults (forget db subject) ≡ []
    unfolding reference_faults
    reference_faults-forget none =
        faults-left (reference_rule (forget db subject)) (λ number table rows row is there among stay.
        reference-left db subject owner number table rows (left_in db subject number table rows) row (each_row (reference_rule db) db none number table rows row is there among))

    module _ (ordered : IsOrdered db) (of_subjects : IsTrue (is_subject db.schema subject.table.0)) where
      owned_case : (name : RowName) → stays db subject name ≡ true → (private : Bool) → is_private db.schema name.table.0 ≡ private → (private && not (has_owner (forget db subject) name)) ≡ false
      owned_case name stay true private = not_from_true _ (has_owner-forget db subject ordered owner of_subjects name private stay)
      owned_case name stay false open_table = refl

      owner-left : (number : ℕ) (table : TableDef) (rows : List Row) (row : Row) → slice_get db.schema.tables number ≡ Some table → stays_in db subject number table row ≡ true
          → owner_rule (forget db subject) number table rows (row_left db subject number table row) ≡ []
      unfolding forget
      owner-left number table rows row is stay =
          let key : key_of table (row_left db subject number table row) ≡ key_of table row = key_left db subject table (named_in number table row) owner is in
          let name : name_of number table (row_left db subject number table row) ≡ name_of number table row = ap (λ (k : Key). record { table = record { 0 = number }; key = k }) key in
          let fine : (is_private db.schema number && not (has_owner (forget db subject) (name_of number table (row_left db subject number table row)))) ≡ false =
          subst (λ n. (is_private db.schema number && not (has_owner (forget db subject) n)) ≡ false) (sym name) (owned_case (name_of number table row) stay _ refl) in
          ap (λ b. if b then Owner table.name (key_of table (row_left db subject number table row)) ∷ [] else []) fine

      -- whatever was wrong with the owners before
      pub owner_faults-forget : owner_faults (forget db subject) ≡ []
      unfolding owner_faults
      owner_faults-forget = faults-left (owner_rule (forget db subject)) (λ number table rows row is there among stay. owner-left number table (left_in db subject number table rows) row is stay)

-- no fault of a UNIQUE column, of a reference or of an owner
pub record IsWhole (db : Db) : Type 0 where
  pub unique : unique_faults db ≡ []
  pub references : reference_faults db ≡ []
  pub owners : owner_faults db ≡ []

-- A FORGET of a row of a subject table keeps references and owners whole.
pub whole-forget : (db : Db) (subject : RowName) → IsOwnerSchema db.schema → IsOrdered db → IsTrue (is_subject db.schema subject.table.0) → IsWhole db → IsWhole (forget db subject)
whole-forget db subject owner ordered of_subjects whole = record {
  unique = unique_faults-forget db subject owner whole.unique;
  references = reference_faults-forget db subject owner whole.references;
  owners = owner_faults-forget db subject owner ordered of_subjects;
}
