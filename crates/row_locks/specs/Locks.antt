-- What is held of one table: the whole of it, and rows by rising key.
use Rattle.std.specs.Prelude.{ℕ, List, [], ◌∷◌, ◌++◌, Bool, true, false, ◌&&◌, ◌||◌, Option, None, Some, flat_map}
use Rattle.std.specs.BTreeMap.{is_at}
use Rattle.std.specs.List.{list_any}
use Rattle.std.specs.List.Sorted.{IsStrictlySortedBy}
use Rattle.std.specs.Map.{keys_of, lookup}
use Rattle.std.specs.Option.{is_some}
use Rattle.own_base.specs.Key.{key_cmp}
use Rattle.own_base.specs.declared.value.Key.{Key}
use Rattle.own_model.specs.declared.footprint.FootItem.{FootItem}
use Rattle.run_model.specs.Agree.{keys_meet}
use Rattle.row_locks.specs.declared.hold.Hold.{Hold}
use Rattle.row_locks.specs.declared.hold.Hold.TheVariants.{Free, Read, Written}
use Rattle.row_locks.specs.Hold.{blocks}

abbrev pub Rows : Type 0
Rows = List (Key × Hold)

-- no key stands twice
abbrev pub AreRising : Rows → Type 0
AreRising rows = IsStrictlySortedBy key_cmp (keys_of rows)

-- the item of a row, or of a whole table, that is held so
abbrev pub held_item : ℕ → Option Key → Hold → List FootItem
held_item table key Free = []
held_item table key Read = record { table = record { 0 = table }; key = key; write = false } ∷ []
held_item table key Written = record { table = record { 0 = table }; key = key; write = true } ∷ []

-- the items of rows of the table of this number
abbrev pub row_items : ℕ → Rows → List FootItem
row_items table rows = flat_map (λ row. held_item table (Some row.0) row.1) rows

-- with that of the whole table
abbrev pub table_items : ℕ → Hold → Rows → List FootItem
table_items table whole rows = held_item table None whole ++ row_items table rows

-- whether one of these rows, that of a key or any, is held against who would write, or only read
abbrev pub rows_meet : Rows → Option Key → Bool → Bool
rows_meet rows key write = list_any (λ row. keys_meet key (Some row.0) && blocks row.1 write) rows

-- or the whole table is
abbrev pub meet : Hold → Rows → Option Key → Bool → Bool
meet whole rows key write = blocks whole write || rows_meet rows key write

-- whether a row has a place among them, however it is held; the whole table always has one
abbrev pub has_row : Rows → Key → Bool
has_row rows key = is_some (lookup (is_at (key_cmp key)) rows)

abbrev pub has_place : Rows → Option Key → Bool
has_place rows None = true
has_place rows (Some key) = has_row rows key
