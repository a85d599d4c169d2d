-- The key of a part's row is the key of a table's row, and of the change that puts it.
use Rattle.std.proofs.Common.{◌≡◌, ◌∙◌, ℕ, List, [], ◌∷◌, Bool, true, false, cond, ap, filter, refl}
use Rattle.std.specs.Prelude.{Some, find, slice_get}
use Rattle.std.specs.List.{AllByRecursion}
use Rattle.std.proofs.lemmas.Bool.{eqb-true}
use Rattle.own_base.specs.Key.{key_cmp}
use Rattle.own_base.specs.declared.change.Change.{Change}
use Rattle.own_base.specs.declared.value.Key.{Key}
use Rattle.own_model.specs.declared.schema.TableDef.{TableDef}
use Rattle.own_model.specs.Db.{IsRising as IsRisingTable, Row, key_of}
use Rattle.own_model.specs.Stored.{has_key}
use Rattle.page_model.specs.Changed.{AreKeyed}
use Rattle.page_model.specs.Found.{found}
use Rattle.page_model.specs.Rising.{IsRising}
use Rattle.state_model.specs.MayBePut.{IsPutIn}
use Rattle.state_model.specs.Put.{changed_key, is_of_table, row_after}
use Rattle.state_model.proofs.PutRows.{found_key}
use Rattle.table_part.specs.KeyIn.{key_in}

-- the key of a row, by the key column of its table
pub key_in-table : (table : TableDef) (row : Row) → key_in table.key row ≡ key_of table row
unfolding key_in key_of
key_in-table table row = refl

-- the rows of a table rise as those of a part
pub rising_in : (table : TableDef) (rows : List Row) → IsRisingTable table rows → IsRising (key_in table.key) key_cmp rows
unfolding key_in key_of
rising_in table rows rising = rising

pub rising_of : (table : TableDef) (rows : List Row) → IsRising (key_in table.key) key_cmp rows → IsRisingTable table rows
unfolding key_in key_of
rising_of table rows rising = rising

-- the row of a key is the first that has it
pub found-has_key : (table : TableDef) (key : Key) (rows : List Row) → found (key_in table.key) key_cmp key rows ≡ find (has_key table key) rows
unfolding key_in key_of
found-has_key table key rows = found_key table key rows

-- the changes of a table put rows of their keys
pub changes_keyed : (tables : List TableDef) (number : ℕ) (table : TableDef) (changes : List Change) → slice_get tables number ≡ Some table → AllByRecursion (IsPutIn tables) changes
    → AreKeyed (key_of table) changed_key row_after (filter (is_of_table number) changes)
changes_keyed tables number table [] at all = tt
changes_keyed tables number table (change ∷ changes) at all = by (changes_keyed tables number table changes at all.1) (is_of_table number change) refl
  where
    by : AreKeyed (key_of table) changed_key row_after (filter (is_of_table number) changes) → (b : Bool) → is_of_table number change ≡ b
        → AreKeyed (key_of table) changed_key row_after (cond b (change ∷ filter (is_of_table number) changes) (filter (is_of_table number) changes))
    by more true of =
        let here : slice_get tables change.name.table.0 ≡ Some table = ap (slice_get tables) (eqb-true change.name.table.0 number of) ∙ at in (rw here at all.0, more)
    by more false other = more
