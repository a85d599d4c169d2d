-- How many rows hold a value in a column.
use Rattle.std.specs.Prelude.{◌≡◌, ℕ, List, Bool, true, Option, None, Some, count_by, slice_get, unwrap_or, if◌then◌else◌}
use Rattle.std.specs.Map.{lookup}
use Rattle.std.specs.BTreeMap.{BTreeMap}
use Rattle.own_base.specs.declared.value.Value.{Value}
use Rattle.own_base.specs.declared.value.Value.TheVariants as value
use Rattle.own_model.specs.declared.schema.Column.{Column}
use Rattle.own_model.specs.Db.{Row}
use Rattle.query_model.specs.Truth.{cell}
use Rattle.state_model.specs.Same.{is_same_value}
use Rattle.commit_check.specs.declared.lent_value.LentValue.{LentValue}
use Rattle.commit_check.specs.declared.lent_value.LentValue.TheVariants.{Int, Text, Sum}

-- the value that is lent
abbrev pub value_of : LentValue → Value
value_of (Int number) = value.Int number
value_of (Text text) = value.Text text.now
value_of (Sum number) = value.Sum number

-- the number that a map has for a value; 0 where it has none
abbrev pub count_at : List (LentValue × ℕ) → Value → ℕ
count_at entries value = unwrap_or (lookup (λ held. is_same_value value (value_of held)) entries) 0

-- how many times one value more, which may be NULL, counts for a value
abbrev pub times : Option LentValue → Value → ℕ
times None value = 0
times (Some held) value = if is_same_value (value_of held) value then 1 else 0

-- whether a row holds a value in a column
abbrev pub holds : ℕ → Value → Row → Bool
holds column value row = is_same_value (cell row column) value

-- a map has, for each value that isn't NULL, how many of some rows hold it in a column
pub record CountsRows (column : ℕ) (rows : List Row) (entries : List (LentValue × ℕ)) : Type 0 where
  pub each : (held : LentValue) → count_at entries (value_of held) ≡ count_by (holds column (value_of held)) rows

-- and there is such a map for each column that is UNIQUE
pub record CountsColumns (columns : List Column) (rows : List Row) (counts : List (BTreeMap LentValue ℕ)) : Type 0 where
  pub each : (number : ℕ) (column : Column) (map : BTreeMap LentValue ℕ) → slice_get columns number ≡ Some column → slice_get counts number ≡ Some map
      → column.unique ≡ true → CountsRows number rows map.entries
