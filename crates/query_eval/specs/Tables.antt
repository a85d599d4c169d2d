-- What stands in the tables of a store.
use Rattle.std.specs.Prelude.{List}
use Rattle.std.specs.List.{All}
use Rattle.own_model.specs.declared.schema.Schema.{Schema}
use Rattle.own_model.specs.Db.{AreRising, Row}
use Rattle.query_model.specs.Stored.{AreStored}

-- rows whose keys rise strictly, and that hold no sums
pub record AreTables (schema : Schema) (rows : List (List Row)) : Type 0 where
  pub rising : AreRising schema.tables rows
  pub stored : All AreStored rows
