-- The rows that hold a value are those that meet it.
use Rattle.std.proofs.Common.{◌≡◌, ℕ, ℤ, ◌<◌, List, [], ◌∷◌, Bool, true, false, Option, Some, None, inl, inr, length, map, refl, sym, ap, ◌∙◌, arith}
use Rattle.std.specs.Prelude.{slice_get}
use Rattle.std.specs.List.{AllByRecursion as Each, filter}
use Rattle.std.specs.Option.{option_map_or}
use Rattle.std.specs.declared.cmp.Ordering.{Ordering}
use Rattle.std.specs.declared.cmp.Ordering.TheVariants.{Less, Equal, Greater}
use Rattle.std.proofs.lemmas.Option.{slice_get_cases}
use Rattle.own_base.specs.Key.{key_cmp}
use Rattle.own_base.specs.declared.number.TableNo.{TableNo}
use Rattle.own_base.specs.declared.value.Key.{Key}
use Rattle.own_base.specs.declared.value.Key.TheVariants as key
use Rattle.own_base.specs.declared.value.Value.{Value}
use Rattle.own_base.specs.declared.value.Value.TheVariants.{Null, Int, Text, Sum}
use Rattle.own_model.specs.declared.condition.Cmp.TheVariants.{Eq}
use Rattle.own_model.specs.declared.schema.TableDef.{TableDef}
use Rattle.own_model.specs.Db.{Db, Row, key_of}
use Rattle.own_model.specs.Stored.{is_equal, rows_at}
use Rattle.link_model.specs.Holds.{holders, holders_at, holds}
use Rattle.query_model.specs.Footprints.{literal_key}
use Rattle.query_model.specs.Stored.{AreStored, IsStored}
use Rattle.query_model.specs.Truth.{cell, compared, comparison, is_true, takes, truth_of}
use Rattle.query_eval.specs.Meetings.{meeting, meets}
use Rattle.query_eval.specs.NamedRows.{rows_named}
use Rattle.query_eval.specs.Tables.{AreTables}
use Rattle.query_eval.proofs.MeetingRows.{meets-back}
use Rattle.query_eval.proofs.NamedRows.{passing_named}
use Rattle.query_eval.proofs.TableRows.{rising_at, stored_at, stored_cells}

-- `=` takes what is equal
equal_taken : (o : Ordering) → is_equal o ≡ is_true (truth_of (takes Eq o))
equal_taken Less = refl
equal_taken Equal = refl
equal_taken Greater = refl

-- what a stored value is as a key
abbrev has : Value → Key → Bool
has other wanted = option_map_or (λ own. is_equal (key_cmp own wanted)) (literal_key other) false

-- a stored value meets one where it is that as a key
has_by_number : (number : ℤ) (other : Value) → IsStored other → has other (key.Int number) ≡ meets other (Int number)
unfolding compared
has_by_number number Null stored = refl
has_by_number number (Int own) stored = equal_taken _
has_by_number number (Text own) stored = refl
has_by_number number (Sum own) stored = absurd stored

has_by_text : (bytes : List ℕ) (other : Value) → IsStored other → has other (key.Text bytes) ≡ meets other (Text bytes)
unfolding compared
has_by_text bytes Null stored = refl
has_by_text bytes (Int own) stored = refl
has_by_text bytes (Text own) stored = equal_taken _
has_by_text bytes (Sum own) stored = absurd stored

has_meets : (value other : Value) (wanted : Key) → literal_key value ≡ Some wanted → IsStored other → has other wanted ≡ meets value other
has_meets Null other wanted is stored = cc
has_meets (Sum number) other wanted is stored = cc
has_meets (Int number) other wanted is stored =
    let same : key.Int number ≡ wanted = cc in
    ap (has other) (sym same) ∙ has_by_number number other stored ∙ meets-back other (Int number)
has_meets (Text bytes) other wanted is stored =
    let same : key.Text bytes ≡ wanted = cc in
    ap (has other) (sym same) ∙ has_by_text bytes other stored ∙ meets-back other (Text bytes)

-- the rows that hold a value meet it
pub holding_meets : (value : Value) (column : ℕ) (wanted : Key) → literal_key value ≡ Some wanted → (rows : List Row) → Each (λ row. IsStored (cell row column)) rows → filter (holds column wanted) rows ≡ meeting value column rows
unfolding holds
holding_meets value column wanted is [] stored = refl
holding_meets value column wanted is (row ∷ rows) stored =
    rw (has_meets value (cell row column) wanted is stored.0, holding_meets value column wanted is rows stored.1) refl

-- the rows of the keys that hold a value
pub named_holders : (db : Db) (table : TableNo) (column : ℕ) (value : Key) → AreTables db.schema db.rows → table.0 < length db.schema.tables
    → rows_named db.schema db.rows table (holders_at db table.0 column value) ≡ filter (holds column value) (rows_at db.rows table.0)
unfolding holders_at
named_holders db table column value tables there = elim ((slice_get_cases db.schema.tables table.0).1) [
  | inl (definition, within, found, is) ↦
      ap (λ (o : Option TableDef). rows_named db.schema db.rows table (option_map_or (λ own. holders own (rows_at db.rows table.0) column value) o [])) found
      ∙ passing_named db.schema db.rows table definition found (holds column value) (rising_at db.schema.tables db.rows table.0 definition tables.rising found)
  | inr (past, none) ↦ absurd (omega arith)
]
