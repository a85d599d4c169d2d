use Rattle.std.proofs.Common.{◌≡◌, ◌≤◌, length, map, take}
use Rattle.std.specs.List.{enumerate_from, filter_map}
use Rattle.schema_model.specs.NewEdges.{edge_column, new_edge}
use Rattle.schema_draft.proofs.edges.new_edges.Given as goal

abbrev pub invariant-loop-number : goal.invariant-loop-number
invariant-loop-number l = record {
  made : l.edges ≡ map (λ numbered. new_edge l.schema l.draft numbered.0 numbered.1)
      (enumerate_from (length l.schema.edges) (filter_map (λ numbered. edge_column numbered.0 numbered.1) (enumerate_from 0 (take l.number l.table.columns))));
  fewer : length l.edges ≤ l.number;
}
