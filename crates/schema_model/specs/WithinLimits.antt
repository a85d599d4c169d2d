-- Schemas within the limits.
use Rattle.std.specs.Prelude.{◌<◌, ◌≤◌, length}
use Rattle.std.specs.List.{AllByRecursion}
use Rattle.own_model.specs.declared.limit.TheConstants.{TABLES, TABLE_COLUMNS}
use Rattle.own_model.specs.declared.schema.Schema.{Schema}
use Rattle.own_model.specs.declared.schema.TableDef.{TableDef}

-- a table has no more columns than it may have, and its primary key is one of them
pub record IsTableWithin (table : TableDef) : Type 0 where
  pub columns : length table.columns ≤ TABLE_COLUMNS
  pub key : table.key.0 < length table.columns

-- no more tables than there may be, each within its limits
pub record IsWithinLimits (schema : Schema) : Type 0 where
  pub tables : length schema.tables ≤ TABLES
  pub each : AllByRecursion IsTableWithin schema.tables
