-- Which databases a store may represent.
use Rattle.std.specs.Prelude.{◌≡◌, None}
use Rattle.own_model.specs.Db.{Db, IsOrdered}
use Rattle.state_model.specs.Created.{IsCreated}
use Rattle.state_model.specs.Fault.{fault}
use Rattle.state_model.specs.Rows.{AreRowsOf}

-- The schema of the creates, rows in key order that may stand in their tables: a database as statements leave it, whatever
-- its constraints say.
pub record IsWellFormed (db : Db) : Type 0 where
  pub created : IsCreated db
  pub ordered : IsOrdered db
  pub rows : AreRowsOf db.schema.tables db.rows

-- such a database without a fault; so each row of a private table has an owner
pub record Sound (db : Db) : Type 0 where
  pub well_formed : IsWellFormed db
  pub faultless : fault db ≡ None
