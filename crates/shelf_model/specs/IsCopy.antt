-- What a copy of a row is.
use Rattle.std.specs.Prelude.{◌≡◌, Some}
use Rattle.own_base.specs.declared.row_name.RowName.{RowName}
use Rattle.own_model.specs.Db.{Db}
use Rattle.owner_model.specs.Joins.{row_of}
use Rattle.subject_model.specs.Owners.{by}
use Rattle.shelf_model.specs.declared.shelved.Shelved.{Shelved}

-- It has the row as it stands, and the edges with which the paths from the row to the subject begin.
pub record IsCopyOf (db : Db) (subject : RowName) (copy : Shelved) : Type 0 where
  pub row : row_of db copy.name ≡ Some copy.row
  pub by : copy.by ≡ by db subject copy.name
