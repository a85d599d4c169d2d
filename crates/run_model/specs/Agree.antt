-- Databases that are the same on some rows.
use Rattle.std.specs.Prelude.{◌≡◌, List, Bool, true, ◌&&◌, ◌||◌, ◌==◌, Option, None, Some}
use Rattle.std.specs.List.{AllByRecursion}
use Rattle.own_base.specs.Key.{key_cmp}
use Rattle.own_base.specs.declared.row_name.RowName.{RowName}
use Rattle.own_base.specs.declared.value.Key.{Key}
use Rattle.own_model.specs.declared.footprint.FootItem.{FootItem}
use Rattle.own_model.specs.Db.{Db}
use Rattle.own_model.specs.Stored.{is_equal, rows_at}
use Rattle.owner_model.specs.Joins.{row_of}

-- the rows that an item names are the same in both, whether they are there or not: one row, or all of a table
abbrev pub AgreeOn : Db → Db → FootItem → Type 0
AgreeOn db other item = by item.key
  where
    by : Option Key → Type 0
    by (Some key) = row_of db (record { table = item.table; key = key }) ≡ row_of other (record { table = item.table; key = key })
    by None = rows_at db.rows item.table.0 ≡ rows_at other.rows item.table.0

-- Two databases of one schema agree on items where the rows that these name are the same.
pub record Agree (items : List FootItem) (db other : Db) : Type 0 where
  pub schema : db.schema ≡ other.schema
  pub on : AllByRecursion (AgreeOn db other) items

-- whether a name is that of a row which an item names
abbrev pub is_on_key : Key → Option Key → Bool
is_on_key key None = true
is_on_key key (Some own) = is_equal (key_cmp own key)

abbrev pub lies_on : RowName → FootItem → Bool
lies_on name item = item.table.0 == name.table.0 && is_on_key name.key item.key

-- whether two items overlap: they name a row in common, and not both only read it
abbrev pub keys_meet : Option Key → Option Key → Bool
keys_meet None other = true
keys_meet (Some key) other = is_on_key key other

abbrev pub overlaps : FootItem → FootItem → Bool
overlaps item other = (item.table.0 == other.table.0 && keys_meet item.key other.key) && (item.write || other.write)
