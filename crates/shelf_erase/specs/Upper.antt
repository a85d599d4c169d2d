-- The rows to which an edge leads up from a row.
use Rattle.std.specs.Prelude.{◌≡◌, ◌↔◌, Bool, true, List, Contains}
use Rattle.own_base.specs.declared.number.TableNo.{TableNo}
use Rattle.own_base.specs.declared.row_name.RowName.{RowName}
use Rattle.own_base.specs.declared.value.Key.{Key}
use Rattle.own_model.specs.declared.schema.Edge.{Edge}
use Rattle.own_model.specs.Db.{Db}
use Rattle.owner_model.specs.Joins.{Joins}

-- the row of a table that has a key
abbrev pub named : TableNo → Key → RowName
named table key = record { table = table; key = key }

-- they are these
pub record AreUppers (db : Db) (name : RowName) (edge : Edge) (uppers : List RowName) : Type 0 where
  pub has : (upper : RowName) → Contains uppers upper ↔ Joins db name edge upper

-- it leads to one that passes a test
pub record LeadsTo (db : Db) (passes : RowName → Bool) (name : RowName) (edge : Edge) : Type 0 where
  pub upper : RowName
  pub joined : Joins db name edge upper
  pub passing : passes upper ≡ true
