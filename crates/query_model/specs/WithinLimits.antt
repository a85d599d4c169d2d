-- Statements and views within the limits.
use Rattle.std.specs.Prelude.{◌≤◌, List, length}
use Rattle.std.specs.List.{AllByRecursion}
use Rattle.own_model.specs.declared.limit.TheConstants.{SELECT_ITEMS, STATEMENT_BYTES, VIEWS}
use Rattle.own_base.specs.declared.value.Value.{Value}
use Rattle.own_model.specs.declared.schema.Schema.{Schema}
use Rattle.own_model.specs.declared.schema.ViewDef.{ViewDef}
use Rattle.own_model.specs.declared.select.Select.{Select}
use Rattle.own_model.specs.declared.statement.Statement.{Statement}
use Rattle.own_model.specs.declared.statement.Statement.TheVariants.{Insert, Select as Queries}
use Rattle.query_model.specs.SelectFaults.{listed_items}

-- a select lists no more items than it may
abbrev pub IsSelectWithin : Select → Type 0
IsSelectWithin select = length (listed_items select.items) ≤ SELECT_ITEMS

-- a tuple has no more values than a call has bytes
abbrev pub IsTupleWithin : List Value → Type 0
IsTupleWithin tuple = length tuple ≤ STATEMENT_BYTES

-- a select by its items, an INSERT by its tuples
abbrev pub IsStatementWithin : Statement → Type 0
IsStatementWithin (Queries select) = IsSelectWithin select
IsStatementWithin (Insert table columns rows) = AllByRecursion IsTupleWithin rows
IsStatementWithin _ = Unit {0}

-- a view has no more columns than a select may list
abbrev pub IsViewWithin : ViewDef → Type 0
IsViewWithin view = length view.names ≤ SELECT_ITEMS

-- no more views than there may be, each within its limit
pub record AreViewsWithin (schema : Schema) : Type 0 where
  pub count : length schema.views ≤ VIEWS
  pub each : AllByRecursion IsViewWithin schema.views
