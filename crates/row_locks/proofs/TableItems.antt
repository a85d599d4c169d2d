-- The items that a session's locks keep, and what overlaps them.
use Rattle.std.proofs.Common.{◌≡◌, ℕ, zero, suc, ◌+◌, ◌<◌, List, [], ◌∷◌, Bool, true, false, Some, None, Option, refl, sym, ◌∙◌, arith, ◌==◌}
use Rattle.std.specs.Prelude.{◌&&◌, slice_get}
use Rattle.std.specs.List.{list_any}
use Rattle.std.specs.Option.{option_map_or}
use Rattle.std.proofs.lemmas.Bool.{eq-eqb, eqb-true, ne_eqb}
use Rattle.std.proofs.lemmas.List.Folds.{list_any-append}
use Rattle.std.proofs.Math.Bool.{and-false, and-true, or-false}
use Rattle.own_base.specs.declared.row_name.RowName.{RowName}
use Rattle.own_base.specs.declared.value.Key.{Key}
use Rattle.own_model.specs.declared.footprint.FootItem.{FootItem}
use Rattle.run_model.specs.Agree.{keys_meet, lies_on, overlaps}
use Rattle.row_locks.specs.declared.hold.Hold.{Hold}
use Rattle.row_locks.specs.declared.hold.Hold.TheVariants.{Free, Read, Written}
use Rattle.row_locks.specs.declared.table_locks.TableLocks.{TableLocks}
use Rattle.row_locks.specs.Hold.{blocks}
use Rattle.row_locks.specs.SessionItems.{items_from, tables_meet}
use Rattle.row_locks.specs.Locks.{Rows, held_item, meet, row_items, rows_meet, table_items}
use Rattle.row_locks.proofs.TestLemmas.{of_table, read, written}

-- of no tables nothing
pub items_none : (first : ℕ) → items_from first [] ≡ []
unfolding items_from
items_none first = refl

module _ (asked : FootItem) where
  -- what is held of one row, or of a whole table
  held_any : (table : ℕ) (key : Option Key) (hold : Hold) → list_any (overlaps asked) (held_item table key hold) ≡ (((asked.table.0 == table) && keys_meet asked.key key) && blocks hold asked.write)
  held_any table key Free = sym (and-false ((asked.table.0 == table) && keys_meet asked.key key))
  held_any table key Read = read ((asked.table.0 == table) && keys_meet asked.key key) asked.write
  held_any table key Written = written ((asked.table.0 == table) && keys_meet asked.key key) asked.write

  rows_any : (table : ℕ) (rows : Rows) → list_any (overlaps asked) (row_items table rows) ≡ ((asked.table.0 == table) && rows_meet rows asked.key asked.write)
  rows_any table [] = sym (and-false (asked.table.0 == table))
  rows_any table (row ∷ rows) =
      list_any-append (overlaps asked) (held_item table (Some row.0) row.1) (row_items table rows)
      ∙ rw (held_any table (Some row.0) row.1, rows_any table rows) (of_table (asked.table.0 == table) (keys_meet asked.key (Some row.0)) (blocks row.1 asked.write) (rows_meet rows asked.key asked.write))

  meets_whole : (key : Option Key) → keys_meet key None ≡ true
  meets_whole None = refl
  meets_whole (Some key) = refl

  -- what is held of a table
  pub table_any : (table : ℕ) (whole : Hold) (rows : Rows) → list_any (overlaps asked) (table_items table whole rows) ≡ ((asked.table.0 == table) && meet whole rows asked.key asked.write)
  table_any table whole rows =
      list_any-append (overlaps asked) (held_item table None whole) (row_items table rows)
      ∙ rw (held_any table None whole, rows_any table rows, meets_whole asked.key) (of_table (asked.table.0 == table) true (blocks whole asked.write) (rows_meet rows asked.key asked.write))

  -- the tables from a later one on
  later_any : (first : ℕ) (tables : List TableLocks) → asked.table.0 < first → list_any (overlaps asked) (items_from first tables) ≡ false
  unfolding items_from
  later_any first [] below = refl
  later_any first (locks ∷ tables) below =
      let other : (asked.table.0 == first) ≡ false = ne_eqb asked.table.0 first (λ same. absurd (omega arith)) in
      list_any-append (overlaps asked) (table_items first locks.whole locks.rows.entries) (items_from (first + 1) tables)
      ∙ rw (table_any first locks.whole locks.rows.entries, other) (later_any (first + 1) tables (omega arith))

  from_any : (first : ℕ) (tables : List TableLocks) (place : ℕ) → asked.table.0 ≡ first + place
      → list_any (overlaps asked) (items_from first tables) ≡ option_map_or (λ locks. meet locks.whole locks.rows.entries asked.key asked.write) (slice_get tables place) false
  unfolding items_from
  from_any first [] place is = refl
  from_any first (locks ∷ tables) zero is =
      let own : (asked.table.0 == first) ≡ true = eq-eqb asked.table.0 first (omega arith) in
      list_any-append (overlaps asked) (table_items first locks.whole locks.rows.entries) (items_from (first + 1) tables)
      ∙ rw (table_any first locks.whole locks.rows.entries, own, later_any (first + 1) tables (omega arith)) (or-false (meet locks.whole locks.rows.entries asked.key asked.write))
  from_any first (locks ∷ tables) (suc place) is =
      let other : (asked.table.0 == first) ≡ false = ne_eqb asked.table.0 first (λ same. absurd (omega arith)) in
      list_any-append (overlaps asked) (table_items first locks.whole locks.rows.entries) (items_from (first + 1) tables)
      ∙ rw (table_any first locks.whole locks.rows.entries, other) (from_any (first + 1) tables place (omega arith))

  -- the locks of an item's table alone stand in its way
  pub tables_any : (tables : List TableLocks) → list_any (overlaps asked) (items_from 0 tables) ≡ tables_meet tables asked
  tables_any tables = from_any 0 tables asked.table.0 (omega arith)

-- a row of this name, to be written
abbrev pub named : RowName → FootItem
named name = record { table = name.table; key = Some name.key; write = true }

same_number : (a b : ℕ) (t : Bool) → (b == a) ≡ t → (a == b) ≡ t
same_number a b true is = eq-eqb a b (sym (eqb-true b a is))
same_number a b false is = ne_eqb a b (λ same. apart same is)
  where
    apart : a ≡ b → (b == a) ≡ false → ⊥
    apart same differs = let one : (b == a) ≡ true = eq-eqb b a (sym same) in cc

-- a name lies on what its row, to be written, overlaps
lies_one : (name : RowName) (item : FootItem) → lies_on name item ≡ overlaps (named name) item
lies_one name item = rw (same_number item.table.0 name.table.0 _ refl) (sym (and-true _))

pub lies_any : (name : RowName) (items : List FootItem) → list_any (lies_on name) items ≡ list_any (overlaps (named name)) items
lies_any name [] = refl
lies_any name (item ∷ items) = rw (lies_one name item, lies_any name items) refl
