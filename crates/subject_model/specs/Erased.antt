-- What becomes of a row, said of two databases.
use Rattle.std.specs.Prelude.{◌≡◌, ◌≢◌, None, Some, IsSome}
use Rattle.own_base.specs.declared.row_name.RowName.{RowName}
use Rattle.own_model.specs.Db.{Db, Row}
use Rattle.owner_model.specs.Joins.{row_of}

-- a row that is there before, and isn't after
pub record IsErased (before after : Db) (name : RowName) : Type 0 where
  pub was : IsSome (row_of before name)
  pub gone : row_of after name ≡ None

-- a row that is there before and after, with another value
pub record IsAltered (before after : Db) (name : RowName) : Type 0 where
  pub old : Row
  pub new : Row
  pub was : row_of before name ≡ Some old
  pub is : row_of after name ≡ Some new
  pub differ : old ≢ new
