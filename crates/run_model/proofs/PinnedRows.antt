-- The rows that a condition keeps depend on the rows of its item alone.
use Rattle.std.proofs.Common.{◌≡◌, ℕ, Bool, true, false, Option, Some, None, refl, sym, ap, ◌∙◌}
use Rattle.std.specs.Prelude.{slice_get}
use Rattle.std.specs.List.{filter, find}
use Rattle.std.specs.Option.{option_map_or, option_to_list}
use Rattle.own_base.specs.declared.number.TableNo.{TableNo}
use Rattle.own_base.specs.declared.value.Key.{Key}
use Rattle.own_model.specs.declared.bound.BoundCond.{BoundCond}
use Rattle.own_model.specs.declared.schema.TableDef.{TableDef}
use Rattle.own_model.specs.Db.{Db, Row}
use Rattle.own_model.specs.Stored.{has_key, rows_at}
use Rattle.query_model.specs.Footprints.{item, key_column, pinned_by, pinned_key}
use Rattle.query_model.specs.Stored.{IsStored}
use Rattle.query_model.specs.Truth.{cell, keeps}
use Rattle.query_model.proofs.KeptByKey.{kept_of_rising, not_kept}
use Rattle.state_model.proofs.PutRows.{rising_at}
use Rattle.run_model.specs.Agree.{AgreeOn, keys_meet}
use Rattle.run_model.proofs.FoundRows.{found_has, has_one_key}
use Rattle.run_model.proofs.TableRows.{AreInPlace, AreSame, no_rows, same_from_agree, stored_keys}

-- what a condition pins in a table that is there
pub pinned_in : (db : Db) (number : TableNo) (table : TableDef) (cond : Option BoundCond) → slice_get db.schema.tables number.0 ≡ Some table
    → pinned_key (key_column db.schema number) cond ≡ pinned_key table.key.0 cond
pinned_in db number table cond is = ap (λ found. pinned_key (option_map_or (λ (table : TableDef). table.key.0) found 0) cond) is

-- the rows that a condition keeps, where it pins a key: the row of the key, where it keeps that
kept_of_key : (db : Db) (number : ℕ) (table : TableDef) (condition : BoundCond) (key : Key) → AreInPlace db → slice_get db.schema.tables number ≡ Some table
    → pinned_by table.key.0 condition ≡ Some key
    → filter (keeps (Some condition)) (rows_at db.rows number) ≡ filter (keeps (Some condition)) (option_to_list (find (has_key table key) (rows_at db.rows number)))
kept_of_key db number table condition key place is pins =
    kept_of_rising table condition key pins (rows_at db.rows number) (rising_at db.schema.tables db.rows number table place.ordered.rising is)
    (stored_keys db number table place is)

module _ (db other : Db) (schema : db.schema ≡ other.schema) (place : AreInPlace db) (places : AreInPlace other) where
  -- by the table
  same_of_key : (number : TableNo) (condition : BoundCond) (key : Key) → pinned_by (key_column db.schema number) condition ≡ Some key
      → AreSame db.schema number.0 (Some key) (rows_at db.rows number.0) (rows_at other.rows number.0)
      → (found : Option TableDef) → slice_get db.schema.tables number.0 ≡ found
      → filter (keeps (Some condition)) (rows_at db.rows number.0) ≡ filter (keeps (Some condition)) (rows_at other.rows number.0)
  same_of_key number condition key pins same None is =
      ap (filter (keeps (Some condition)))
      (no_rows db.schema.tables db.rows number.0 place.ordered.rising is
      ∙ sym (no_rows other.schema.tables other.rows number.0 places.ordered.rising (rw (← schema) is)))
  same_of_key number condition key pins same (Some table) is =
      let own : pinned_by table.key.0 condition ≡ Some key = sym (pinned_in db number table (Some condition) is) ∙ pins in
      kept_of_key db number.0 table condition key place is own
      ∙ (ap (λ found. filter (keeps (Some condition)) (option_to_list found)) (same table is)
      ∙ sym (kept_of_key other number.0 table condition key places (rw (← schema) is) own))

  -- by the condition
  by_pin : (number : TableNo) (cond : Option BoundCond) (pin : Option Key) → pinned_key (key_column db.schema number) cond ≡ pin
      → AreSame db.schema number.0 pin (rows_at db.rows number.0) (rows_at other.rows number.0)
      → filter (keeps cond) (rows_at db.rows number.0) ≡ filter (keeps cond) (rows_at other.rows number.0)
  by_pin number cond None is same = ap (filter (keeps cond)) same
  by_pin number None (Some key) is same = cc
  by_pin number (Some condition) (Some key) is same = same_of_key number condition key is same _ refl

  -- databases that agree on the item of a condition keep the same rows by it
  pub same-kept : (number : TableNo) (cond : Option BoundCond) (write : Bool) → AgreeOn db other (item number (pinned_key (key_column db.schema number) cond) write)
      → filter (keeps cond) (rows_at db.rows number.0) ≡ filter (keeps cond) (rows_at other.rows number.0)
  same-kept number cond write agree =
      by_pin number cond _ refl (same_from_agree db other schema (item number (pinned_key (key_column db.schema number) cond) write) agree)

-- A condition that pins a key, and another key: the row of that one isn't kept.
module _ (db : Db) (place : AreInPlace db) (number : TableNo) (key : Key) (table : TableDef) (is : slice_get db.schema.tables number.0 ≡ Some table)
    (row : Row) (found : find (has_key table key) (rows_at db.rows number.0) ≡ Some row) where
  other_key : (condition : BoundCond) (pin : Option Key) → pinned_by table.key.0 condition ≡ pin → keys_meet pin (Some key) ≡ false → keeps (Some condition) row ≡ false
  other_key condition None pins apart = cc
  other_key condition (Some own) pins apart =
      let both = found_has (has_key table key) (λ row. IsStored (cell row table.key.0)) (rows_at db.rows number.0) (stored_keys db number.0 table place is) row found in
      not_kept table condition own pins row both.1 (has_one_key table key own row both.0 ∙ apart)

  pub not-kept : (cond : Option BoundCond) → keys_meet (pinned_key (key_column db.schema number) cond) (Some key) ≡ false → keeps cond row ≡ false
  not-kept None apart = cc
  not-kept (Some condition) apart =
      other_key condition _ refl (ap (λ pin. keys_meet pin (Some key)) (sym (pinned_in db number table (Some condition) is)) ∙ apart)

-- a whole table meets each item of it
pub whole_meets : (pin : Option Key) → keys_meet pin None ≡ true
whole_meets None = refl
whole_meets (Some key) = refl
