-- What a DELETE does to a table, by look-ups: it leaves the row of a key or not by what that row was.
use Rattle.std.proofs.Common.{◌≡◌, List, Bool, true, false, not, Option, Some, None, refl, sym, ap, ◌∙◌}
use Rattle.std.specs.Prelude.{slice_get}
use Rattle.std.specs.List.{find}
use Rattle.std.proofs.lemmas.Map.Entries.{option_filter}
use Rattle.own_base.specs.declared.number.TableNo.{TableNo}
use Rattle.own_base.specs.declared.value.Key.{Key}
use Rattle.own_model.specs.declared.bound.BoundCond.{BoundCond}
use Rattle.own_model.specs.declared.schema.TableDef.{TableDef}
use Rattle.own_model.specs.Db.{Db, IsRising, Row}
use Rattle.own_model.specs.Stored.{has_key, rows_at}
use Rattle.query_model.specs.Footprints.{key_column, pinned_key}
use Rattle.query_model.specs.Truth.{keeps}
use Rattle.state_model.proofs.PutRows.{rising_at}
use Rattle.run_model.specs.Agree.{keys_meet}
use Rattle.run_model.specs.Update.{rows_left}
use Rattle.run_model.proofs.FoundRows.{find-filter}
use Rattle.run_model.proofs.PinnedRows.{not-kept, whole_meets}
use Rattle.run_model.proofs.TableRows.{AreInPlace, AreSame}

module _ (cond : Option BoundCond) where
  -- whether a row is left
  abbrev is_left : Row → Bool
  is_left row = not (keeps cond row)

  found-left : (table : TableDef) (key : Key) (rows : List Row) → IsRising table rows
      → find (has_key table key) (rows_left cond rows) ≡ option_filter is_left (find (has_key table key) rows)
  unfolding rows_left
  found-left table key rows rising = find-filter table key is_left rows rising

  -- a row that isn't kept is left
  left_there : (found : Option Row) → ((row : Row) → found ≡ Some row → keeps cond row ≡ false) → option_filter is_left found ≡ found
  left_there None kept = refl
  left_there (Some row) kept = rw (kept row refl) refl

  module _ (db : Db) (place : AreInPlace db) (number : TableNo) where
    found_there : (table : TableDef) (key : Key) → slice_get db.schema.tables number.0 ≡ Some table
        → find (has_key table key) (rows_left cond (rows_at db.rows number.0)) ≡ option_filter is_left (find (has_key table key) (rows_at db.rows number.0))
    found_there table key is = found-left table key (rows_at db.rows number.0) (rising_at db.schema.tables db.rows number.0 table place.ordered.rising is)

    -- rows of keys that the condition doesn't pin stay
    pub still-left : (key : Option Key) → keys_meet (pinned_key (key_column db.schema number) cond) key ≡ false
        → AreSame db.schema number.0 key (rows_at db.rows number.0) (rows_left cond (rows_at db.rows number.0))
    still-left None apart = let never : true ≡ false = sym (whole_meets _) ∙ apart in cc
    still-left (Some key) apart = λ table is.
        sym (found_there table key is
        ∙ left_there (find (has_key table key) (rows_at db.rows number.0)) (λ row found. not-kept db place number key table is row found cond apart))

  -- rows that are the same stay so
  pub same-left : (db other : Db) → db.schema ≡ other.schema → AreInPlace db → AreInPlace other → (number : TableNo)
      → (key : Option Key) → AreSame db.schema number.0 key (rows_at db.rows number.0) (rows_at other.rows number.0)
      → AreSame db.schema number.0 key (rows_left cond (rows_at db.rows number.0)) (rows_left cond (rows_at other.rows number.0))
  same-left db other schema place places number None same = ap (rows_left cond) same
  same-left db other schema place places number (Some key) same = λ table is.
      found_there db place number table key is
      ∙ (ap (option_filter is_left) (same table is) ∙ sym (found_there other places number table key (rw (← schema) is)))
