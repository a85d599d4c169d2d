-- What the values of an INSERT are for, by place and by column.
use Rattle.std.specs.Prelude.{◌≡◌, ◌<◌, ℕ, List, Option, length, map, position, slice_index_or}
use Rattle.std.specs.Option.{option_map_or}
use Rattle.own_base.specs.declared.value.Value.{Value}
use Rattle.own_base.specs.declared.value.Value.TheVariants.{Null}
use Rattle.own_model.specs.declared.limit.TheConstants.{TABLE_COLUMNS}
use Rattle.own_model.specs.declared.refusal.Refusal.{Refusal}
use Rattle.own_model.specs.declared.schema.Column.{Column as Definition}
use Rattle.own_model.specs.declared.schema.TableDef.{TableDef}
use Rattle.query_model.specs.Scope.{NameBytes}
use Rattle.query_model.specs.WriteFaults.{columns_for, columns_left, numbered_columns}
use Rattle.plan_bind.specs.ColumnList.{columns_meant, is_of_number}
use Rattle.plan_bind.specs.IsNoted.{IsNoted}
use Rattle.plan_bind.specs.NumberedColumns.{column_of}
use Rattle.plan_bind.specs.declared.numbered_column.NumberedColumn.{NumberedColumn}

-- a table, and the column list of an INSERT into it
pub record Listed : Type 0 where
  pub table : TableDef
  pub names : Option (List NameBytes)

-- the place in a tuple of the value for the column of a number: the first that is for it
unfoldable pub place_of : List (Option (ℕ × Definition)) → ℕ → Option ℕ
place_of columns number = position (is_of_number number) columns

-- those of all columns of a table
abbrev pub places_of : List (Option (ℕ × Definition)) → TableDef → List (Option ℕ)
places_of columns table = map (λ column. place_of columns column.0) (numbered_columns table)

-- the value at a place, where there is one
abbrev pub value_at : List Value → Option ℕ → Value
value_at tuple place = option_map_or (λ at. slice_index_or tuple at Null) place Null

-- the columns that values are for, the places of the values for columns, and the columns that get none
pub record AreTargets (table : TableDef) (names : Option (List NameBytes)) (columns : List (Option NumberedColumn)) (places : List (Option ℕ)) (left : List NumberedColumn) : Type 0 where
  pub meant : columns_meant columns ≡ columns_for table names
  pub placed : places ≡ places_of (columns_for table names) table
  pub unnamed : map column_of left ≡ columns_left table names

-- Where a list names more columns than a table can have, a fault of it is kept that is told before a count of values.
abbrev pub IsCounted : Listed → Option Refusal → Type 0
IsCounted listed kept = TABLE_COLUMNS < length (columns_for listed.table listed.names) → IsNoted 5 kept
