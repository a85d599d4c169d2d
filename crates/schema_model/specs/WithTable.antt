-- The schema after a CREATE TABLE.
use Rattle.std.specs.Prelude.{◌++◌}
use Rattle.own_model.specs.declared.create.CreateTable.{CreateTable}
use Rattle.own_model.specs.declared.schema.Schema.{Schema}
use Rattle.schema_model.specs.NewEdges.{new_edges}
use Rattle.schema_model.specs.NewTable.{tables_with}

-- its table and its edges at the end
unfoldable pub with_table : Schema → CreateTable → Schema
with_table schema create = record {
  tables = tables_with schema create;
  views = schema.views;
  edges = schema.edges ++ new_edges schema create;
}
