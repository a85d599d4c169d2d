-- Rows from which the same edges lead up in two databases.
use Rattle.std.specs.Prelude.{◌≡◌}
use Rattle.own_base.specs.declared.row_name.RowName.{RowName}
use Rattle.own_model.specs.declared.schema.Edge.{Edge}
use Rattle.own_model.specs.Db.{Db}
use Rattle.owner_model.specs.Joins.{Joins, row_of}

-- the row is the same, and each edge joins it to the same upper rows
pub record KeepsEdges (before after : Db) (name : RowName) : Type 0 where
  pub row : row_of before name ≡ row_of after name
  pub still : (edge : Edge) (upper : RowName) → Joins before name edge upper → Joins after name edge upper
  pub already : (edge : Edge) (upper : RowName) → Joins after name edge upper → Joins before name edge upper
