-- Rows that have all their values.
use Rattle.std.specs.Prelude.{◌≡◌, ◌≢◌, List, Some, length, slice_get}
use Rattle.std.specs.List.{AllByRecursion}
use Rattle.own_base.specs.declared.number.TableNo.{TableNo}
use Rattle.own_base.specs.declared.value.Value.TheVariants.{Null}
use Rattle.own_model.specs.declared.schema.Schema.{Schema}
use Rattle.own_model.specs.declared.schema.TableDef.{TableDef}
use Rattle.own_model.specs.Db.{Row}
use Rattle.own_model.specs.Stored.{rows_at}
use Rattle.query_model.specs.Truth.{cell}

-- one for each column of the table, and not NULL as its primary key
pub record IsWhole (table : TableDef) (row : Row) : Type 0 where
  pub wide : length row ≡ length table.columns
  pub keyed : cell row table.key.0 ≢ Null

-- each row of a table
abbrev pub AreWhole : Schema → List (List Row) → TableNo → Type 0
AreWhole schema rows table = (definition : TableDef) → slice_get schema.tables table.0 ≡ Some definition → AllByRecursion (IsWhole definition) (rows_at rows table.0)
