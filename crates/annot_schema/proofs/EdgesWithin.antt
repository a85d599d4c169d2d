-- The tables that the edges of a schema and those of a CREATE TABLE join are its tables and the new one.
use Rattle.std.proofs.Common.{◌≡◌, ℕ, ◌+◌, ◌<◌, ◌≤◌, ◌++◌, length, Bool, true, false, refl, ap, arith}
use Rattle.std.specs.Prelude.{Option, None, Some, position, slice_get, unwrap_or, bytes_eq}
use Rattle.own_model.specs.declared.create.CreateTable.{CreateTable}
use Rattle.own_model.specs.declared.schema.Edge.{Edge}
use Rattle.own_model.specs.declared.schema.Schema.{Schema}
use Rattle.owner_model.specs.AreWithin.{AreWithin}
use Rattle.schema_model.specs.Columns.{NameBytes}
use Rattle.schema_model.specs.Kinds.{is_upward}
use Rattle.schema_model.specs.NewEdges.{new_edges}
use Rattle.schema_model.specs.OwnerSchema.{IsOwnerSchema}
use Rattle.schema_model.specs.Tables.{number_of}
use Rattle.schema_model.proofs.EdgeEnds.{ends-old}
use Rattle.schema_model.proofs.Found.{position-some}
use Rattle.schema_model.proofs.NewColumns.{referring}
use Rattle.schema_model.proofs.NewEdgeLemmas.{IsNewEdge, lower_down, lower_up, new_edge-made, upper_down, upper_up}
use Rattle.schema_model.proofs.Places.{all-append, all-from_places, place-lt}

-- an edge joins two of so many tables
abbrev pub JoinsWithin : ℕ → Edge → Type 0
JoinsWithin tables edge = (edge.lower.0 < tables) × (edge.upper.0 < tables)

-- the number of a name is that of a table, or of the table that comes next
pub number_of-le : (schema : Schema) (name : NameBytes) → number_of schema name ≤ length schema.tables
number_of-le schema name = by (position (λ table. bytes_eq table.name name) schema.tables) refl
  where
    by : (o : Option ℕ) → position (λ table. bytes_eq table.name name) schema.tables ≡ o → unwrap_or o (length schema.tables) ≤ length schema.tables
    by None is = omega arith
    by (Some place) is =
        let some = position-some (λ table. bytes_eq table.name name) schema.tables place is in
        let below = place-lt schema.tables place some.0 some.1 in omega arith

module _ (schema : Schema) (create : CreateTable) where
  -- so the table that a new edge's column names is one of these
  target-le : (edge : Edge) (by : IsNewEdge schema create edge) → by.from.target.0 ≤ length schema.tables
  target-le edge by =
      let refers = referring schema create by.from.column by.column (by.from.kind, by.from.target) by.column_is by.gives.refers in
      let number : by.from.target.0 ≡ number_of schema refers.reference.refers.table = ap (λ link. link.1.0) refers.link_is in
      omega (arith, number_of-le schema refers.reference.refers.table)

  new_within : (edge : Edge) (by : IsNewEdge schema create edge) → (up : Bool) → is_upward by.from.kind ≡ up → JoinsWithin (length schema.tables + 1) edge
  new_within edge by true up =
      let named = target-le edge by in
      let lower = ap (λ table. table.0) (lower_up schema create edge by up) in
      let upper = ap (λ table. table.0) (upper_up schema create edge by up) in
      (omega arith, omega arith)
  new_within edge by false down =
      let named = target-le edge by in
      let lower = ap (λ table. table.0) (lower_down schema create edge by down) in
      let upper = ap (λ table. table.0) (upper_down schema create edge by down) in
      (omega arith, omega arith)

  old_within : (edge : Edge) (place : ℕ) → IsOwnerSchema schema → slice_get schema.edges place ≡ Some edge → JoinsWithin (length schema.tables + 1) edge
  old_within edge place owner is =
      let both = ends-old schema place edge owner is in
      let lower = both.lower in
      let upper = both.upper in
      (omega arith, omega arith)

  -- each edge joins two of them
  pub edges_within : IsOwnerSchema schema → AreWithin (length schema.tables + 1) (schema.edges ++ new_edges schema create)
  edges_within owner =
      all-append (JoinsWithin (length schema.tables + 1)) schema.edges (new_edges schema create)
      (all-from_places (JoinsWithin (length schema.tables + 1)) schema.edges (λ place edge is. old_within edge place owner is))
      (all-from_places (JoinsWithin (length schema.tables + 1)) (new_edges schema create) (λ place edge is. new_within edge (new_edge-made schema create edge (place, is)) _ refl))
