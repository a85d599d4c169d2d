-- The tables that edges join are tables of the schema.
use Rattle.std.proofs.Common.{◌≡◌, ℕ, ◌+◌, ◌<◌, [], ◌∷◌, ◌++◌, length, Bool, true, false, cond, eqb, inl, inr, refl, ap, arith}
use Rattle.std.specs.Prelude.{◌⊎◌, Some, slice_get}
use Rattle.std.proofs.lemmas.Bool.{eq-eqb, eqb-true}
use Rattle.std.proofs.lemmas.List.{length-append}
use Rattle.own_model.specs.declared.create.CreateTable.{CreateTable}
use Rattle.own_model.specs.declared.schema.Edge.{Edge}
use Rattle.own_model.specs.declared.schema.Schema.{Schema}
use Rattle.schema_model.specs.Kinds.{is_upward}
use Rattle.schema_model.specs.NewEdges.{new_edges}
use Rattle.schema_model.specs.NewTable.{new_table, tables_with}
use Rattle.schema_model.specs.OwnerSchema.{ColumnsRefer, IsOwnerEdge, IsOwnerSchema, named_table}
use Rattle.schema_model.specs.Tables.{number_of}
use Rattle.schema_model.proofs.Admitted.{IsAdmitted}
use Rattle.schema_model.proofs.NewColumns.{referring}
use Rattle.schema_model.proofs.NewEdgeLemmas.{IsNewEdge, lower_down, lower_up, new_edge-made, new_holder, upper_down, upper_up}
use Rattle.schema_model.proofs.Places.{IsIn, all-at, in_append, place-lt}
use Rattle.schema_model.proofs.Targets.{target-at, target-there}

-- both tables of an edge, and the one that holds its column, are below a number
pub record EndsBelow (tables : ℕ) (edge : Edge) : Type 0 where
  pub lower : edge.lower.0 < tables
  pub upper : edge.upper.0 < tables
  pub holder : edge.holder.0 < tables

ends_step : (tables : ℕ) (edge : Edge) → edge.holder.0 < tables → (b : Bool) → eqb edge.holder.0 edge.lower.0 ≡ b → (cond b edge.upper edge.lower).0 < tables
    → (edge.holder ≡ edge.lower) ⊎ (edge.holder ≡ edge.upper) → EndsBelow tables edge
ends_step tables edge held true is named (inl same) =
    record { lower = rw (← same) held; upper = named; holder = held }
ends_step tables edge held true is named (inr same) =
    let lower = eqb-true edge.holder.0 edge.lower.0 is in record { lower = omega arith; upper = named; holder = held }
ends_step tables edge held false is named (inl same) =
    let equal = eq-eqb edge.holder.0 edge.lower.0 (ap (λ table. table.0) same) in let never : ⊥ = cc in absurd never
ends_step tables edge held false is named (inr same) = record { lower = named; upper = rw (← same) held; holder = held }

-- an edge of an owner schema joins two of its tables
pub ends-old : (schema : Schema) (place : ℕ) (edge : Edge) → IsOwnerSchema schema → slice_get schema.edges place ≡ Some edge → EndsBelow (length schema.tables) edge
ends-old schema place edge owner is =
    let own = all-at (IsOwnerEdge schema) schema.edges owner.edges place edge is in
    let refers = all-at (ColumnsRefer schema) schema.tables owner.columns edge.holder.0 own.holder own.holder_is in
    let link = refers edge.column.0 own.column (own.kind, named_table edge) own.column_is own.refers in
    let named = place-lt schema.tables (named_table edge).0 link.1.table link.1.table_is in
    ends_step (length schema.tables) edge (place-lt schema.tables edge.holder.0 own.holder own.holder_is) _ refl named own.held

-- the table that a column of the new table names is one of the schema with it
target-lt : (schema : Schema) (create : CreateTable) (edge : Edge) → IsAdmitted schema create → (by : IsNewEdge schema create edge) → by.from.target.0 < length schema.tables + 1
target-lt schema create edge admitted by =
    let refers = referring schema create by.from.column by.column (by.from.kind, by.from.target) by.column_is by.gives.refers in
    let there = target-there schema create refers.reference admitted.named refers.among in
    let below = place-lt (tables_with schema create) _ there.0 (target-at schema create refers.reference.refers there.0 there.1) in
    let number : by.from.target.0 ≡ number_of schema refers.reference.refers.table = ap (λ link. link.1.0) refers.link_is in
    omega (arith, length-append schema.tables (new_table schema create ∷ []))

-- a new edge joins two tables of it
ends_new : (schema : Schema) (create : CreateTable) (edge : Edge) → IsAdmitted schema create → (by : IsNewEdge schema create edge)
    → (b : Bool) → is_upward by.from.kind ≡ b → EndsBelow (length schema.tables + 1) edge
ends_new schema create edge admitted by true up =
    let target = target-lt schema create edge admitted by in
    let lower = ap (λ table. table.0) (lower_up schema create edge by up) in
    let upper = ap (λ table. table.0) (upper_up schema create edge by up) in
    let holder = ap (λ table. table.0) (new_holder schema create edge by) in
    record { lower = omega arith; upper = omega arith; holder = omega arith }
ends_new schema create edge admitted by false down =
    let target = target-lt schema create edge admitted by in
    let lower = ap (λ table. table.0) (lower_down schema create edge by down) in
    let upper = ap (λ table. table.0) (upper_down schema create edge by down) in
    let holder = ap (λ table. table.0) (new_holder schema create edge by) in
    record { lower = omega arith; upper = omega arith; holder = omega arith }

ends_case : (schema : Schema) (create : CreateTable) (edge : Edge) → IsOwnerSchema schema → IsAdmitted schema create
    → IsIn schema.edges edge ⊎ IsIn (new_edges schema create) edge → EndsBelow (length schema.tables + 1) edge
ends_case schema create edge owner admitted (inl old) =
    let ends = ends-old schema old.0 edge owner old.1 in
    let lower = ends.lower in let upper = ends.upper in let holder = ends.holder in
    record { lower = omega arith; upper = omega arith; holder = omega arith }
ends_case schema create edge owner admitted (inr new) = ends_new schema create edge admitted (new_edge-made schema create edge new) _ refl

-- so does each edge of the schema with the new table
pub ends-all : (schema : Schema) (create : CreateTable) → IsOwnerSchema schema → IsAdmitted schema create
    → (place : ℕ) (edge : Edge) → slice_get (schema.edges ++ new_edges schema create) place ≡ Some edge → EndsBelow (length schema.tables + 1) edge
ends-all schema create owner admitted place edge is =
    ends_case schema create edge owner admitted (in_append schema.edges (new_edges schema create) edge (place, is))
