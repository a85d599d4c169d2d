-- Of which rows it is told whether they go.
use Rattle.std.specs.Prelude.{◌≡◌, List, Contains}
use Rattle.own_base.specs.declared.change.Change.{Change}
use Rattle.own_base.specs.declared.number.TableNo.{TableNo}
use Rattle.own_base.specs.declared.row_name.RowName.{RowName}
use Rattle.own_model.specs.declared.schema.Edge.{Edge}
use Rattle.own_model.specs.Db.{Db}
use Rattle.shelf_erase.specs.ChangeAt.{removal_at}
use Rattle.shelf_erase.specs.Told.{told}

-- those of each table to which an edge leads up from a table
pub record AboveTold (db : Db) (subject : RowName) (table : TableNo) (removals : List Change) : Type 0 where
  pub above : (edge : Edge) → Contains db.schema.edges edge → edge.lower ≡ table → (upper : RowName) → upper.table ≡ edge.upper → told removals upper ≡ removal_at db subject upper
