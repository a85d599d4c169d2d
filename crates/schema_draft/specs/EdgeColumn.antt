-- What an edge is made of, lent.
use Rattle.schema_model.specs.NewEdges.{EdgeColumn}
use Rattle.schema_draft.specs.declared.edges.EdgeColumn.{EdgeColumn as Lent}

abbrev pub edge_column_seen : Lent → EdgeColumn
edge_column_seen found = record { column = found.column.0; name = found.name.now; kind = found.kind; target = found.target }
