-- Edges by a table that each has.
use Rattle.std.specs.Prelude.{ℕ, List, map, filter, ◌==◌}
use Rattle.std.specs.List.{range_with_len}
use Rattle.own_base.specs.declared.number.TableNo.{TableNo}
use Rattle.own_model.specs.declared.schema.Edge.{Edge}
use Rattle.owner_graph.specs.declared.end.End.{End}
use Rattle.owner_graph.specs.declared.end.End.TheVariants.{Lower, Upper}

-- the table at that end of an edge
abbrev pub table_at : End → Edge → TableNo
table_at Lower edge = edge.lower
table_at Upper edge = edge.upper

-- the edges that have a table at that end, in their order
abbrev pub edges_at : End → List Edge → ℕ → List Edge
edges_at end edges table = filter (λ edge. (table_at end edge).0 == table) edges

-- those of each table, by its number
abbrev pub by_table : End → ℕ → List Edge → List (List Edge)
by_table end tables edges = map (edges_at end edges) (range_with_len 0 tables)
