-- Nobody owns a data subject in the schema that an admitted CREATE TABLE gives.
use Rattle.std.proofs.Common.{◌≡◌, ℕ, ◌<◌, [], ◌++◌, length, true, false, ◌&&◌, inl, inr, refl, ap, sym, ◌∙◌, arith}
use Rattle.std.specs.Prelude.{◌⊎◌, ◌==◌, IsTrue, filter}
use Rattle.std.specs.Option.{option_map_or}
use Rattle.std.proofs.lemmas.Bool.{and_from, and_parts, eq-eqb, eqb-true, false_from_ne_true, or_left, or_right}
use Rattle.own_model.specs.declared.create.CreateTable.{CreateTable}
use Rattle.own_model.specs.declared.schema.Edge.{Edge}
use Rattle.own_model.specs.declared.schema.RefKind.{RefKind}
use Rattle.own_model.specs.declared.schema.RefKind.TheVariants.{Plain, OwnedBy, Owns, AccessedBy, Accesses}
use Rattle.own_model.specs.declared.schema.Schema.{Schema}
use Rattle.schema_model.specs.Kinds.{gives_ownership, is_owned_by, is_owns, is_upward}
use Rattle.schema_model.specs.NewEdges.{new_edge, new_edges}
use Rattle.schema_model.specs.NewTable.{new_table}
use Rattle.schema_model.specs.OwnerSchema.{IsOwnerSchema}
use Rattle.schema_model.specs.References.{Reference, references_of}
use Rattle.schema_model.specs.Tables.{is_private, is_subject, number_of}
use Rattle.schema_model.specs.WithTable.{with_table}
use Rattle.schema_model.specs.rules.OwnedSubjects.{names_subjects, owned_subjects, owns_subjects}
use Rattle.schema_model.proofs.Admitted.{IsAdmitted}
use Rattle.schema_model.proofs.EdgeEnds.{ends-old}
use Rattle.schema_model.proofs.NewEdgeLemmas.{IsNewEdge, lower_down, lower_up, new_edge-made}
use Rattle.schema_model.proofs.OwnerTables.{old_subject}
use Rattle.schema_model.proofs.Places.{IsIn, all-at, all-from_places, any-at, any-none, filter-none, in_append, map-none, slice_get-push}
use Rattle.schema_model.proofs.RuledLemmas.{kind_of_edge, reference_of_edge, target_of_edge}
use Rattle.schema_model.proofs.Targets.{target-at, target-there}

-- OWNED_BY and OWNS alone give ownership
ownership_case : (kind : RefKind) → gives_ownership kind ≡ true → (kind ≡ OwnedBy) ⊎ (kind ≡ Owns)
ownership_case Plain gives = let never : ⊥ = cc in absurd never
ownership_case OwnedBy gives = inl refl
ownership_case Owns gives = inr refl
ownership_case AccessedBy gives = let never : ⊥ = cc in absurd never
ownership_case Accesses gives = let never : ⊥ = cc in absurd never

-- no reference of the CREATE owns data subjects
owns_none : (schema : Schema) (create : CreateTable) (reference : Reference) → owned_subjects schema create ≡ [] → IsIn (references_of create) reference
    → owns_subjects schema create reference ≡ false
unfolding owned_subjects
owns_none schema create reference none among =
    let kept = map-none (λ reference. reference.column) (filter (owns_subjects schema create) (references_of create)) none in
    let each = filter-none (owns_subjects schema create) (references_of create) kept in
    all-at (λ reference. owns_subjects schema create reference ≡ false) (references_of create) each among.0 reference among.1

module _ (schema : Schema) (create : CreateTable) (owner : IsOwnerSchema schema) (admitted : IsAdmitted schema create) where
  module _ (edge : Edge) (by : IsNewEdge schema create edge) (subject : is_subject (with_table schema create) edge.lower.0 ≡ true) where
    -- an OWNED_BY column stands in no table of data subjects
    owned_by_case : by.from.kind ≡ OwnedBy → ⊥
    unfolding with_table new_table
    owned_by_case kind =
        let refers = reference_of_edge schema create admitted edge by in
        let own : refers.reference.refers.kind ≡ OwnedBy = sym (kind_of_edge schema create admitted edge by) ∙ kind in
        let lower = lower_up schema create edge by (ap is_upward kind) in
        let new = slice_get-push schema.tables (new_table schema create) in
        let own_subject : create.subject ≡ true = rw (lower, new) at subject in
        let none = owns_none schema create refers.reference admitted.subjects refers.among in
        let owns : owns_subjects schema create refers.reference ≡ true =
        or_left (is_owned_by refers.reference.refers.kind && create.subject) _ (and_from (is_owned_by refers.reference.refers.kind) create.subject (ap is_owned_by own) own_subject) in
        let never : ⊥ = cc in never

    -- and an OWNS column names none
    owns_case : by.from.kind ≡ Owns → ⊥
    unfolding with_table
    owns_case kind =
        let refers = reference_of_edge schema create admitted edge by in
        let own : refers.reference.refers.kind ≡ Owns = sym (kind_of_edge schema create admitted edge by) ∙ kind in
        let lower : edge.lower.0 ≡ number_of schema refers.reference.refers.table =
        ap (λ table. table.0) (lower_down schema create edge by (ap is_upward kind)) ∙ target_of_edge schema create admitted edge by in
        let there = target-there schema create refers.reference admitted.named refers.among in
        let at = target-at schema create refers.reference.refers there.0 there.1 in
        let target : there.0.subject ≡ true = rw (lower, at) at subject in
        let names : names_subjects schema create refers.reference ≡ true = ap (λ o. option_map_or (λ table. table.subject) o false) there.1 ∙ target in
        let none = owns_none schema create refers.reference admitted.subjects refers.among in
        let owns : owns_subjects schema create refers.reference ≡ true =
        or_right (is_owned_by refers.reference.refers.kind && create.subject) _
        (and_from (is_owns refers.reference.refers.kind) (names_subjects schema create refers.reference) (ap is_owns own) names) in
        let never : ⊥ = cc in never

    new_case : edge.owner ≡ true → ⊥
    unfolding new_edge
    new_case owns = either (ownership_case by.from.kind (sym (ap (λ edge. edge.owner) by.edge_is) ∙ owns))
      where
        either : (by.from.kind ≡ OwnedBy) ⊎ (by.from.kind ≡ Owns) → ⊥
        either (inl kind) = owned_by_case kind
        either (inr kind) = owns_case kind

  subject_case : (table : ℕ) (edge : Edge) → is_subject (with_table schema create) table ≡ true → edge.owner ≡ true → edge.lower.0 ≡ table
      → IsIn schema.edges edge ⊎ IsIn (new_edges schema create) edge → ⊥
  subject_case table edge subject owns lower (inl old) =
      let below = (ends-old schema old.0 edge owner old.1).lower in
      let small : table < length schema.tables = omega arith in
      let none = owner.subjects table (sym (old_subject schema create table small) ∙ subject) in
      let private = any-at (λ edge. edge.owner && edge.lower.0 == table) schema.edges old.0 edge old.1 (and_from edge.owner _ owns (eq-eqb edge.lower.0 table lower)) in
      let never : ⊥ = cc in never
  subject_case table edge subject owns lower (inr new) =
      new_case edge (new_edge-made schema create edge new) (ap (is_subject (with_table schema create)) lower ∙ subject) owns

  -- no table of data subjects is private
  pub subjects-with_table : (table : ℕ) → IsTrue (is_subject (with_table schema create) table) → is_private (with_table schema create) table ≡ false
  unfolding with_table
  subjects-with_table table subject =
      any-none (λ edge. edge.owner && edge.lower.0 == table) (schema.edges ++ new_edges schema create)
      (all-from_places (λ edge. (edge.owner && edge.lower.0 == table) ≡ false) (schema.edges ++ new_edges schema create)
      (λ place edge is. false_from_ne_true (edge.owner && edge.lower.0 == table) (λ owns.
      let parts = and_parts edge.owner (edge.lower.0 == table) owns in
      subject_case table edge subject parts.0 (eqb-true edge.lower.0 table parts.1) (in_append schema.edges (new_edges schema create) edge (place, is)))))
