-- The columns of edges refer to tables.
use Rattle.std.proofs.Common.{refl}
use Rattle.std.specs.Prelude.{Bool, true, false, ◌||◌, IsTrue}
use Rattle.std.specs.List.{AllByRecursion}
use Rattle.own_model.specs.declared.schema.Edge.{Edge}
use Rattle.own_model.specs.declared.schema.Schema.{Schema}
use Rattle.page_model.proofs.RisingLemmas.{each_weaker}
use Rattle.schema_model.specs.OwnerSchema.{IsOwnerEdge, IsOwnerSchema}
use Rattle.link_model.specs.Indexed.{is_indexed_at}

either : (b : Bool) → IsTrue (b || true)
either true = refl
either false = refl

-- that of one edge is indexed
edge_indexed : (schema : Schema) (edge : Edge) → IsOwnerEdge schema edge → IsTrue (is_indexed_at schema edge.holder.0 edge.column.0)
edge_indexed schema edge is = rw (is.holder_is, is.column_is, is.refers) (either is.column.unique)

-- and so that of each
pub edges_indexed : (schema : Schema) → IsOwnerSchema schema → AllByRecursion (λ edge. IsTrue (is_indexed_at schema edge.holder.0 edge.column.0)) schema.edges
edges_indexed schema is = each_weaker _ _ (edge_indexed schema) schema.edges is.edges
