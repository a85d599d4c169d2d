-- The rows of a lone table are nobody's.
use Rattle.std.proofs.Common.{◌≡◌, [], ◌∷◌, length, Bool, true, false, not, refl, sym, ap, ◌∙◌, eq-eqb, arith}
use Rattle.std.specs.Prelude.{◌&&◌, Contains}
use Rattle.std.specs.List.{list_any}
use Rattle.std.proofs.lemmas.Bool.{and_parts, not-true, or_left, or_right}
use Rattle.own_base.specs.declared.number.TableNo.{TableNo}
use Rattle.own_base.specs.declared.row_name.RowName.{RowName}
use Rattle.own_model.specs.declared.schema.Edge.{Edge}
use Rattle.own_model.specs.Db.{Db, Row}
use Rattle.schema_model.specs.Lone.{is_lone, touches}
use Rattle.schema_model.specs.Tables.{is_subject}
use Rattle.subject_model.specs.Named.{is_there}
use Rattle.subject_model.specs.Owners.{owners, owns, reaches, subjects}
use Rattle.subject_model.specs.Paths.{IsPath, Path, is_subject_row}
use Rattle.subject_model.proofs.Members.{any_contained}
use Rattle.subject_model.proofs.OwnerLemmas.{owns_from, reaches_from}
use Rattle.state_model.specs.Weight.{at_least_one, seers}
use Rattle.state_model.proofs.Counts.{none-counted}
use Rattle.change_weight.specs.Shown.{lone_weight}
use Rattle.change_weight.specs.WeightAt.{whole_weight}

false_from : (b : Bool) → (b ≡ true → ⊥) → b ≡ false
false_from true never = absurd (never refl)
false_from false never = refl

module _ (db : Db) (name : RowName) (lone : is_lone db.schema name.table.0 ≡ true) where
  both : (not (is_subject db.schema name.table.0) ≡ true) × (not (list_any (touches name.table.0) db.schema.edges) ≡ true)
  unfolding is_lone
  both = and_parts (not (is_subject db.schema name.table.0)) (not (list_any (touches name.table.0) db.schema.edges)) lone

  -- no edge of the schema is at such a table
  no_edge : (edge : Edge) → Contains db.schema.edges edge → touches name.table.0 edge ≡ true → ⊥
  no_edge edge among is =
      let some = any_contained (touches name.table.0) db.schema.edges edge among is in
      let none = not-true (list_any (touches name.table.0) db.schema.edges) both.1 in
      let never : true ≡ false = sym some ∙ none in cc

  -- so none goes out of it
  pub not_lower : (edge : Edge) → Contains db.schema.edges edge → name.table ≡ edge.lower → ⊥
  not_lower edge among is = no_edge edge among (or_left _ _ (eq-eqb edge.lower.0 name.table.0 (ap (λ (t : TableNo). t.0) (sym is))))

  -- or leads up to it
  pub not_upper : (edge : Edge) → Contains db.schema.edges edge → name.table ≡ edge.upper → ⊥
  not_upper edge among is = no_edge edge among (or_right _ _ (eq-eqb edge.upper.0 name.table.0 (ap (λ (t : TableNo). t.0) (sym is))))

  no_subject_row : is_subject_row db name ≡ true → ⊥
  unfolding is_subject_row
  no_subject_row is =
      let subject = (and_parts (is_subject db.schema name.table.0) (is_there db name) is).0 in
      let none = not-true (is_subject db.schema name.table.0) both.0 in
      let never : true ≡ false = sym subject ∙ none in cc

  -- no path begins at its rows
  no_path : (path : Path) (subject : RowName) → IsPath db name path subject → ⊥
  no_path [] subject leads = no_subject_row leads.0
  no_path (step ∷ rest) subject leads = not_lower step.edge leads.0.among leads.0.of_lower

  not_owned : (subject : RowName) → owns db subject name ≡ false
  not_owned subject = false_from (owns db subject name) (λ is. let own = owns_from db subject name is in no_path own.path subject own.leads)

  not_reached : (subject : RowName) → reaches db subject name ≡ false
  not_reached subject = false_from (reaches db subject name) (λ is. let own = reaches_from db subject name is in no_path own.path subject own.leads)

  no_owners : length (owners db name) ≡ 0
  unfolding owners
  no_owners = none-counted (λ subject. owns db subject name) not_owned (subjects db)

  unseen : (subject : RowName) → (reaches db subject name && not (owns db subject name)) ≡ false
  unseen subject = rw (not_reached subject) refl

  no_seers : seers db name ≡ 0
  no_seers = none-counted (λ subject. reaches db subject name && not (owns db subject name)) unseen (subjects db)

  -- so a row of it weighs its size, and what the views show of it
  pub lone_weighs : (row : Row) → whole_weight db (record { name = name; row = row }) ≡ lone_weight db.schema name.table.0 row
  lone_weighs row =
      let owned = no_owners in
      let seen = no_seers in
      let once : at_least_one (length (owners db name)) ≡ 1 = ap at_least_one owned in
      rw (owned, seen) (omega arith)
