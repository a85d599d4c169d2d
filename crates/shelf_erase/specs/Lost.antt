-- What a row loses, told by the rows that go.
use Rattle.std.specs.Prelude.{ℕ, List, Bool, false, not, ◌&&◌, ◌||◌, Option, None, Some, is_some, map, slice_get, if◌then◌else◌}
use Rattle.std.specs.List.{enumerate_from, list_any}
use Rattle.std.specs.Option.{option_map_or}
use Rattle.own_base.specs.declared.change.Change.{Change}
use Rattle.own_base.specs.declared.number.ColumnSet.{ColumnSet}
use Rattle.own_base.specs.declared.number.TableNo.{TableNo}
use Rattle.own_base.specs.declared.value.Key.{Key}
use Rattle.own_base.specs.declared.value.Value.{Value}
use Rattle.own_base.specs.declared.value.Value.TheVariants.{Null}
use Rattle.own_model.specs.declared.schema.Column.{Column}
use Rattle.own_model.specs.declared.schema.TableDef.{TableDef}
use Rattle.own_model.specs.Db.{Row}
use Rattle.owner_model.specs.ColumnSets.{has_column}
use Rattle.query_model.specs.Footprints.{literal_key}
use Rattle.query_model.specs.Truth.{is_null}
use Rattle.subject_erase.specs.Erasures.{blanking}
use Rattle.subject_model.specs.Named.{NamedRow}
use Rattle.shelf_erase.specs.Told.{told}
use Rattle.shelf_erase.specs.Upper.{named}

module _ (removals : List Change) where
  -- whether a key names a row of a table that goes
  abbrev pub names_removed : TableNo → Option Key → Bool
  names_removed table key = option_map_or (λ key. is_some (told removals (named table key))) key false

  -- whether a value, in a column, refers to a row that goes
  abbrev pub dangles_by : Column → Value → Bool
  dangles_by column value = option_map_or (λ link. names_removed link.1 (literal_key value)) column.refers false

  -- whether a row loses the value in the column of a number, given the columns that are ruled
  abbrev pub loses_by : TableDef → ColumnSet → ℕ × Value → Bool
  loses_by table ruled numbered = has_column ruled numbered.0 || option_map_or (λ column. dangles_by column numbered.1) (slice_get table.columns numbered.0) false

  -- one that isn't NULL
  abbrev pub loses_value : TableDef → ColumnSet → ℕ × Value → Bool
  loses_value table ruled numbered = loses_by table ruled numbered && not (is_null numbered.1)

  -- what stands in its place
  abbrev pub value_left : TableDef → ColumnSet → ℕ × Value → Value
  value_left table ruled numbered = if loses_by table ruled numbered then Null else numbered.1

  abbrev pub loses_some_by : TableDef → ColumnSet → Row → Bool
  loses_some_by table ruled row = list_any (loses_value table ruled) (enumerate_from 0 row)

  -- what is left of a row
  abbrev pub left_by : TableDef → ColumnSet → Row → Row
  left_by table ruled row = map (value_left table ruled) (enumerate_from 0 row)

  -- what becomes of a row that stays
  abbrev pub blanked_by : TableDef → ColumnSet → NamedRow → Option Change
  blanked_by table ruled row = if loses_some_by table ruled row.row then Some (blanking row (left_by table ruled row.row)) else None
