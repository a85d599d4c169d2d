-- What a grouped select shows, said of its groups.
use Rattle.std.specs.Prelude.{◌≡◌, ℕ, List, Contains, map}
use Rattle.std.specs.List.{AllByRecursion}
use Rattle.std.specs.List.Sorted.{IsStrictlySortedBy}
use Rattle.std.specs.declared.cmp.Ordering.TheVariants.{Equal}
use Rattle.own_base.specs.declared.value.Value.{Value}
use Rattle.own_model.specs.declared.bound.BoundItem.{BoundItem}
use Rattle.own_model.specs.Db.{Row}
use Rattle.query_model.specs.Order.{value_cmp}
use Rattle.query_model.specs.Query.{group_of, summary}
use Rattle.query_model.specs.Truth.{cell}

-- a value that some row has in a column
pub record StandsIn (column : ℕ) (rows : List Row) (value : Value) : Type 0 where
  pub row : Row
  pub among : Contains rows row
  pub is : cell row column ≡ value

-- a value that is equal to one of some
pub record IsOneOf (values : List Value) (value : Value) : Type 0 where
  pub other : Value
  pub among : Contains values other
  pub equal : value_cmp value other ≡ Equal

-- There is a group for each value of a column: the values rise, so none comes twice, each stands in some row, and the value of
-- each row is one of them. A row is shown for each group, by value.
pub record AreGroupRows (items : List BoundItem) (column : ℕ) (rows shown : List Row) : Type 0 where
  pub values : List Value
  pub rise : IsStrictlySortedBy value_cmp values
  pub stand : AllByRecursion (StandsIn column rows) values
  pub each : AllByRecursion (λ row. IsOneOf values (cell row column)) rows
  pub one_each : shown ≡ map (λ value. summary items value (group_of column rows value)) values
