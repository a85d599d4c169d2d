-- As a transaction changes them, the keys of each table's rows rise still.
use Rattle.std.proofs.Common.{◌≡◌, refl, sym, subst, ℕ, suc, ◌+◌, List, [], ◌∷◌, arith}
use Rattle.std.specs.Prelude.{Some, slice_get}
use Rattle.own_model.specs.declared.schema.TableDef.{TableDef}
use Rattle.own_model.specs.Db.{AreRising, Db, IsOrdered, Row, key_of}
use Rattle.own_model.proofs.KeyOrder.{key_order}
use Rattle.page_model.specs.Changed.{AreKeyed}
use Rattle.page_model.proofs.ChangedLemmas.{rising_with_changes}
use Rattle.txn_space.specs.declared.entry.Entry.{Entry}
use Rattle.txn_space.specs.Changed.{changed_db, changed_from, changed_rows}
use Rattle.txn_space.specs.Entries.{entries_at, entry_key, entry_row}
use Rattle.txn_space.specs.Sound.{IsBase, IsSpaceOf}

pub next : (number place : ℕ) → number + 1 + place ≡ number + suc place
next number place = omega arith

pub same : (number : ℕ) → number + 0 ≡ number
same number = omega arith

pub from_none : (place : ℕ) → 0 + place ≡ place
from_none place = omega arith

-- the rows of each table rise
rising_from : (number : ℕ) (tables : List TableDef) (rows : List (List Row)) (space : List (List Entry)) → AreRising tables rows
    → ((place : ℕ) (table : TableDef) → slice_get tables place ≡ Some table → AreKeyed (key_of table) entry_key entry_row (entries_at space (number + place)))
    → AreRising tables (changed_from number tables rows space)
unfolding changed_from
rising_from number [] [] space rising keyed = tt
rising_from number [] (one ∷ rows) space rising keyed = absurd rising
rising_from number (table ∷ tables) [] space rising keyed = absurd rising
rising_from number (table ∷ tables) (one ∷ rows) space rising keyed = (
  rising_with_changes (key_of table) key_order entry_key entry_row (entries_at space number) one (subst (λ n. AreKeyed (key_of table) entry_key entry_row (entries_at space n)) (same number) (keyed 0 table refl)) rising.0,
  rising_from (number + 1) tables rows space rising.1 (λ place other is. subst (λ n. AreKeyed (key_of other) entry_key entry_row (entries_at space n)) (sym (next number place)) (keyed (suc place) other is)),
)

pub changed_rise : (tables : List TableDef) (rows : List (List Row)) (space : List (List Entry)) → IsBase tables rows → IsSpaceOf tables space → AreRising tables (changed_rows tables rows space)
changed_rise tables rows space base sound =
    rising_from 0 tables rows space base.rising (λ place table is. subst (λ n. AreKeyed (key_of table) entry_key entry_row (entries_at space n)) (sym (from_none place)) (sound.keyed place table is))

-- so the database is in order
pub changed_ordered : (db : Db) (space : List (List Entry)) → IsBase db.schema.tables db.rows × IsSpaceOf db.schema.tables space → IsOrdered (changed_db db space)
changed_ordered db space sound = record { rising = changed_rise db.schema.tables db.rows space sound.0 sound.1 }
