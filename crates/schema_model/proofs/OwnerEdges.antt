-- The edges of the schema that an admitted CREATE TABLE gives, and that no walk over them is closed.
use Rattle.std.proofs.Common.{◌≡◌, ◌≢◌, ℕ, ◌+◌, ◌<◌, ◌≤◌, [], ◌∷◌, ◌++◌, length, Bool, true, false, inl, inr, refl, ap, sym, ◌∙◌, arith}
use Rattle.std.specs.Prelude.{◌⊎◌, Some, slice_get, if◌then◌else◌}
use Rattle.std.specs.List.{AllByRecursion}
use Rattle.std.proofs.lemmas.Bool.{cases_lt, cond-false, cond-true, eq-eqb, ne_eqb}
use Rattle.own_model.specs.declared.create.CreateTable.{CreateTable}
use Rattle.own_model.specs.declared.schema.Edge.{Edge}
use Rattle.own_model.specs.declared.schema.Schema.{Schema}
use Rattle.owner_model.specs.Leads.{leads}
use Rattle.schema_model.specs.Kinds.{is_upward}
use Rattle.schema_model.specs.NewEdges.{new_edges}
use Rattle.schema_model.specs.NewTable.{new_table}
use Rattle.schema_model.specs.OwnerSchema.{IsOwnerEdge, IsOwnerSchema, named_table}
use Rattle.schema_model.specs.WithTable.{with_table}
use Rattle.schema_model.proofs.Admitted.{IsAdmitted}
use Rattle.schema_model.proofs.Cycles.{leads-edge, leads-none, leads-unclosed}
use Rattle.schema_model.proofs.EdgeEnds.{ends-all}
use Rattle.schema_model.proofs.NewEdgeLemmas.{IsNewEdge, lower_down, lower_up, new_column_no, new_edge-made, new_holder, new_owner, upper_down, upper_up}
use Rattle.schema_model.proofs.Places.{all-append, all-from_places, all-weaker, slice_get-append, slice_get-append_after, slice_get-push}

module _ (schema : Schema) (create : CreateTable) (owner : IsOwnerSchema schema) (admitted : IsAdmitted schema create) where
  -- no table leads to itself
  pub acyclic-with_table : (table : ℕ) → leads (with_table schema create).edges table table ≡ false
  unfolding with_table
  acyclic-with_table table = by (cases_lt table (length schema.tables + 1))
    where
      by : (table < length schema.tables + 1) ⊎ (length schema.tables + 1 ≤ table) → leads (schema.edges ++ new_edges schema create) table table ≡ false
      by (inl below) =
          leads-unclosed (length schema.tables + 1) (schema.edges ++ new_edges schema create)
          (λ place edge is. (ends-all schema create owner admitted place edge is).upper) admitted.acyclic table below
      by (inr above) =
          leads-none (schema.edges ++ new_edges schema create) table table
          (λ place edge is same. let lower = (ends-all schema create owner admitted place edge is).lower in omega arith)

  -- so a new edge joins two tables that differ
  new_differ : (place : ℕ) (edge : Edge) → slice_get (new_edges schema create) place ≡ Some edge → edge.lower.0 ≢ edge.upper.0
  unfolding with_table
  new_differ place edge is same =
      let there = slice_get-append_after schema.edges (new_edges schema create) place edge is in
      let walk = leads-edge (schema.edges ++ new_edges schema create) (length schema.edges + place) edge there in
      let own : leads (schema.edges ++ new_edges schema create) edge.lower.0 edge.lower.0 ≡ true = rw (← same) at walk in
      let none = acyclic-with_table edge.lower.0 in
      let never : ⊥ = cc in never

  module _ (edge : Edge) (differ : edge.lower.0 ≢ edge.upper.0) (by : IsNewEdge schema create edge) where
    held_case : (b : Bool) → is_upward by.from.kind ≡ b → (edge.holder ≡ edge.lower) ⊎ (edge.holder ≡ edge.upper)
    held_case true up = inl (new_holder schema create edge by ∙ sym (lower_up schema create edge by up))
    held_case false down = inr (new_holder schema create edge by ∙ sym (upper_down schema create edge by down))

    named_case : (b : Bool) → is_upward by.from.kind ≡ b → named_table edge ≡ by.from.target
    named_case true up =
        let same : edge.holder ≡ edge.lower = new_holder schema create edge by ∙ sym (lower_up schema create edge by up) in
        cond-true _ edge.upper edge.lower (eq-eqb edge.holder.0 edge.lower.0 (ap (λ table. table.0) same)) ∙ upper_up schema create edge by up
    named_case false down =
        let same : edge.holder ≡ edge.upper = new_holder schema create edge by ∙ sym (upper_down schema create edge by down) in
        cond-false _ edge.upper edge.lower (ne_eqb edge.holder.0 edge.lower.0 (λ equal. differ (sym equal ∙ ap (λ table. table.0) same))) ∙ lower_down schema create edge by down

    side_case : (b : Bool) → is_upward by.from.kind ≡ b → edge.holder ≡ (if b then edge.lower else edge.upper)
    side_case true up = new_holder schema create edge by ∙ sym (lower_up schema create edge by up)
    side_case false down = new_holder schema create edge by ∙ sym (upper_down schema create edge by down)

    new_is_edge : IsOwnerEdge (with_table schema create) edge
    unfolding with_table
    new_is_edge =
        let number = new_column_no schema create edge by in
        let named = named_case _ refl in
        record {
          differ = differ;
          held = held_case _ refl;
          holder = new_table schema create;
          holder_is = rw (new_holder schema create edge by) (slice_get-push schema.tables (new_table schema create));
          column = by.column;
          column_is = rw number by.column_is;
          kind = by.from.kind;
          refers = rw named by.gives.refers;
          edges = by.gives.gives;
          side = side_case _ refl;
          owner = new_owner schema create edge by;
        }

  old_is_edge : (edge : Edge) → IsOwnerEdge schema edge → IsOwnerEdge (with_table schema create) edge
  unfolding with_table
  old_is_edge edge own = record {
    differ = own.differ;
    held = own.held;
    holder = own.holder;
    holder_is = slice_get-append schema.tables (new_table schema create ∷ []) edge.holder.0 own.holder own.holder_is;
    column = own.column;
    column_is = own.column_is;
    kind = own.kind;
    refers = own.refers;
    edges = own.edges;
    side = own.side;
    owner = own.owner;
  }

  -- each edge is one of an owner schema
  pub edges-with_table : AllByRecursion (IsOwnerEdge (with_table schema create)) (with_table schema create).edges
  unfolding with_table
  edges-with_table =
      all-append (IsOwnerEdge (with_table schema create)) schema.edges (new_edges schema create)
      (all-weaker (IsOwnerEdge schema) (IsOwnerEdge (with_table schema create)) old_is_edge schema.edges owner.edges)
      (all-from_places (IsOwnerEdge (with_table schema create)) (new_edges schema create) (λ place edge is. new_is_edge edge (new_differ place edge is) (new_edge-made schema create edge (place, is))))
