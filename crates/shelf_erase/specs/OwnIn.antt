-- The rows of a table that a subject owns.
use Rattle.std.specs.Prelude.{◌≡◌}
use Rattle.own_base.specs.declared.number.TableNo.{TableNo}
use Rattle.own_base.specs.declared.row_name.RowName.{RowName}
use Rattle.own_model.specs.Db.{Db}
use Rattle.subject_model.specs.Owners.{Owns}

pub record IsOwnIn (db : Db) (subject : RowName) (table : TableNo) (name : RowName) : Type 0 where
  pub of_table : name.table ≡ table
  pub owned : Owns db subject name

-- the row of a name, if it is of a table
pub record IsNamedIn (own : RowName) (table : TableNo) (name : RowName) : Type 0 where
  pub named : name ≡ own
  pub of_table : name.table ≡ table
