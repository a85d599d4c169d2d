-- What contracts see of a graph.
use Rattle.std.specs.Prelude.{◌≡◌, ℕ, ◌==◌, List, [], filter, slice_index_or}
use Rattle.own_base.specs.declared.number.TableNo.{TableNo}
use Rattle.own_model.specs.declared.schema.Edge.{Edge}
use Rattle.owner_model.specs.GraphOrder.{IsGraphOrder}

-- its tables in order, and the edges out of each table, by the table's number
pub record GraphSeen : Type 0 where
  pub order : List TableNo
  pub edges : List (List Edge)

-- the edges out of a table
abbrev pub edges_up : GraphSeen → ℕ → List Edge
edges_up graph table = slice_index_or graph.edges table []

-- it is the graph of so many tables and these edges: in its order each edge leads to an earlier table, and out of each
-- table it has the edges that go out of it, in their order
pub record IsGraphOf (tables : ℕ) (edges : List Edge) (graph : GraphSeen) : Type 0 where
  pub ordered : IsGraphOrder tables edges graph.order
  pub same_edges : (table : ℕ) → edges_up graph table ≡ filter (λ edge. edge.lower.0 == table) edges
