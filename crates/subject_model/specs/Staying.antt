-- Which rows are struck and which stay, said of paths.
use Rattle.std.specs.Prelude.{◌≢◌, ◌⊎◌, IsFalse, IsTrue}
use Rattle.std.specs.List.{AllByRecursion}
use Rattle.own_base.specs.declared.row_name.RowName.{RowName}
use Rattle.own_model.specs.declared.schema.Edge.{Edge}
use Rattle.own_model.specs.Db.{Db}
use Rattle.owner_model.specs.Joins.{Joins}
use Rattle.schema_model.specs.Tables.{is_private}
use Rattle.subject_model.specs.Owners.{IsOwnerPath, Owns}
use Rattle.subject_model.specs.Paths.{IsPath, Path}
use Rattle.subject_model.specs.Stays.{struck}

-- An edge ruled DELETE_ROW joins the row to one that the subject owns.
pub record Struck (db : Db) (subject name : RowName) : Type 0 where
  pub edge : Edge
  pub upper : RowName
  pub joined : Joins db name edge upper
  pub strikes : IsTrue edge.strike
  pub owned : Owns db subject upper

-- no row of a path is struck, the first included
abbrev pub IsFree : Db → RowName → RowName → Path → Type 0
IsFree db subject from path = IsFalse (struck db subject from) × AllByRecursion (λ step. IsFalse (struck db subject step.upper)) path

-- Another subject holds a row where an owner path from it to that subject has no struck row.
pub record Claimed (db : Db) (subject name : RowName) : Type 0 where
  pub other : RowName
  pub differs : other ≢ subject
  pub path : Path
  pub leads : IsPath db name path other
  pub owner : IsOwnerPath path
  pub free : IsFree db subject name path

-- A row stays that isn't the subject's own and is of a table that isn't private, or held by another subject.
pub record Stays (db : Db) (subject name : RowName) : Type 0 where
  pub other : name ≢ subject
  pub kept : IsFalse (is_private db.schema name.table.0) ⊎ Claimed db subject name
