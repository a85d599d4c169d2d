-- Changes of lone tables leave each row the owner that it needs.
use Rattle.std.proofs.Common.{◌≡◌, ◌∙◌, ℕ, List, [], ◌∷◌, Bool, true, false, not, refl, sym, subst}
use Rattle.std.specs.Prelude.{◌&&◌, ◌==◌, Contains, Some, slice_get, if◌then◌else◌}
use Rattle.std.proofs.lemmas.Bool.{and_parts, eqb-true}
use Rattle.own_model.specs.declared.refusal.Refusal.{Refusal}
use Rattle.own_model.specs.declared.refusal.Refusal.TheVariants.{Owner}
use Rattle.own_model.specs.declared.schema.Edge.{Edge}
use Rattle.own_model.specs.declared.schema.Schema.{Schema}
use Rattle.own_model.specs.declared.schema.TableDef.{TableDef}
use Rattle.own_model.specs.Db.{Db, IsOrdered, Row, key_of}
use Rattle.schema_model.specs.OwnerSchema.{IsOwnerSchema}
use Rattle.schema_model.specs.Tables.{is_private}
use Rattle.subject_model.specs.Named.{name_of}
use Rattle.subject_model.specs.Owners.{has_owner}
use Rattle.subject_model.proofs.Members.{contains_any}
use Rattle.state_model.specs.Fault.{owner_faults, owner_rule}
use Rattle.state_model.proofs.FaultLemmas.{each_row, row_each}
use Rattle.schema_model.specs.Lone.{is_lone}
use Rattle.commit_judge.proofs.EdgeLemmas.{lower-edged}
use Rattle.commit_judge.proofs.EdgeRows.{owner_kept}
use Rattle.commit_judge.proofs.SameElsewhere.{AreSameElsewhere, there_before, under}

owner_step : (private had has : Bool) (why : Refusal) → (had ≡ true → has ≡ true) → (if private && not had then why ∷ [] else []) ≡ [] → (if private && not has then why ∷ [] else []) ≡ []
owner_step false had has why kept none = refl
owner_step true true has why kept none = rw (kept refl) refl
owner_step true false has why kept none = let never : ◌≡◌ {A = List Refusal} (why ∷ []) [] = none in absurd (cc)

public_none : (private has : Bool) (why : Refusal) → private ≡ false → (if private && not has then why ∷ [] else []) ≡ []
public_none private has why is = rw is refl

-- no owner edge goes out of such a table
lone_public : (schema : Schema) (number : ℕ) → is_lone schema number ≡ true → (private : Bool) → is_private schema number ≡ private → private ≡ false
lone_public schema number lone true is =
    let test : Edge → Bool = λ edge. edge.owner && edge.lower.0 == number in
    let (edge, among, passes) = contains_any test schema.edges is in
    let same : edge.lower.0 ≡ number = eqb-true edge.lower.0 number (and_parts edge.owner (edge.lower.0 == number) passes).1 in
    let edged : is_lone schema number ≡ false = subst (λ n. is_lone schema n ≡ false) same (lower-edged schema edge among) in
    let never : true ≡ false = sym lone ∙ edged in cc
lone_public schema number lone false is = refl

module _ (db next : Db) (before : IsOrdered db) (after : IsOrdered (under db next)) (are : AreSameElsewhere (is_lone db.schema) db.rows next.rows) where
  unowned_step : IsOwnerSchema db.schema → owner_faults db ≡ [] → (number : ℕ) (table : TableDef) (own : List Row) (row : Row) → slice_get db.schema.tables number ≡ Some table → slice_get next.rows number ≡ Some own
      → Contains own row → (lone : Bool) → is_lone db.schema number ≡ lone → owner_rule (under db next) number table own row ≡ []
  unfolding owner_faults
  unowned_step owner none number table own row is there among true lone =
      public_none (is_private db.schema number) (has_owner (under db next) (name_of number table row)) (Owner table.name (key_of table row)) (lone_public db.schema number lone _ refl)
  unowned_step owner none number table own row is there among false edged =
      let had = each_row (owner_rule db) db none number table own row is (there_before (is_lone db.schema) db next are number own before after edged there) among in
      owner_step (is_private db.schema number) (has_owner db (name_of number table row)) (has_owner (under db next) (name_of number table row)) (Owner table.name (key_of table row))
      (owner_kept db next are (name_of number table row) after owner edged) had

  pub owner-left : IsOwnerSchema db.schema → owner_faults db ≡ [] → owner_faults (under db next) ≡ []
  unfolding owner_faults
  owner-left owner none = row_each (owner_rule (under db next)) (under db next) (λ number table own row is there among. unowned_step owner none number table own row is there among _ refl)
