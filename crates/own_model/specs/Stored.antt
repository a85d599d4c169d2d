-- The rows of a store as plain lists, by table, by key, and in runs.
use Rattle.std.specs.Prelude.{◌≡◌, ℕ, ◌<◌, List, [], ◌++◌, drop, length, Bool, true, false, not, ◌==◌, Option, find, slice_get, slice_index_or}
use Rattle.std.specs.Option.{option_and_then}
use Rattle.std.specs.declared.cmp.Ordering.{Ordering}
use Rattle.std.specs.declared.cmp.Ordering.TheVariants.{Less, Equal, Greater}
use Rattle.own_base.specs.Key.{key_cmp}
use Rattle.own_base.specs.declared.row_name.RowName.{RowName}
use Rattle.own_base.specs.declared.value.Key.{Key}
use Rattle.own_model.specs.declared.schema.Schema.{Schema}
use Rattle.own_model.specs.declared.schema.TableDef.{TableDef}
use Rattle.own_model.specs.Db.{Row, key_of}

-- the rows of the table that has this number
abbrev pub rows_at : List (List Row) → ℕ → List Row
rows_at rows table = slice_index_or rows table []

-- whether that table has a row
abbrev pub holds_rows : List (List Row) → ℕ → Bool
holds_rows rows table = not (length (rows_at rows table) == 0)

abbrev pub is_equal : Ordering → Bool
is_equal Less = false
is_equal Equal = true
is_equal Greater = false

-- whether a row of this table has this key
abbrev pub has_key : TableDef → Key → Row → Bool
has_key table key row = is_equal (key_cmp (key_of table row) key)

-- The row of this name, where there is one. The keys of a table differ, so there is at most one.
unfoldable pub row_named : Schema → List (List Row) → RowName → Option Row
row_named schema rows name =
    option_and_then (λ table. find (has_key table name.key) (rows_at rows name.table.0)) (slice_get schema.tables name.table.0)

-- rows that stand one after another from this place on: some where there is one at the place, and none past the end
pub record IsRunFrom (rows : List Row) (place : ℕ) (run : List Row) : Type 0 where
  pub rest : List Row
  pub follow : drop place rows ≡ run ++ rest
  pub some : place < length rows → 0 < length run
