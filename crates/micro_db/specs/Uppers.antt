-- The rows to which an edge leads up from a row.
use Rattle.std.specs.Prelude.{◌↔◌, List, Contains}
use Rattle.own_base.specs.declared.row_name.RowName.{RowName}
use Rattle.own_model.specs.declared.schema.Edge.{Edge}
use Rattle.own_model.specs.Db.{Db}
use Rattle.owner_model.specs.Joins.{Joins}

-- all of them
pub record AreUppersAlong (db : Db) (name : RowName) (edge : Edge) (uppers : List RowName) : Type 0 where
  pub has : (upper : RowName) → Contains uppers upper ↔ Joins db name edge upper
