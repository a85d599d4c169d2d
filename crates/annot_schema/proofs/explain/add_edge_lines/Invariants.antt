use Rattle.std.proofs.Common.{◌≡◌, ◌++◌, ◌==◌, drop, filter, map}
use Rattle.schema_model.specs.Explained.{edge_line}
use Rattle.annot_schema.proofs.explain.add_edge_lines.Given as goal

-- the lines that are added, with those still to add
abbrev pub invariant-loop-edge : goal.invariant-loop-edge
invariant-loop-edge l = l.lines ++ map (edge_line l.schema) (filter (λ edge. edge.holder.0 == l.number) (drop l.edge-index l.edge-items)) ≡ l.initial.lines ++ map (edge_line l.schema) (filter (λ edge. edge.holder.0 == l.number) l.schema.edges)
