-- What an UPDATE does to a table, by look-ups: it changes the row of a key by what that row was.
use Rattle.std.proofs.Common.{◌≡◌, List, Bool, true, false, Option, Some, None, refl, sym, ap, ◌∙◌}
use Rattle.std.specs.Prelude.{slice_get, if◌then◌else◌}
use Rattle.std.specs.List.{find}
use Rattle.std.specs.Option.{option_map}
use Rattle.own_base.specs.declared.number.TableNo.{TableNo}
use Rattle.own_base.specs.declared.value.Key.{Key}
use Rattle.own_model.specs.declared.bound.BoundCond.{BoundCond}
use Rattle.own_model.specs.declared.schema.Schema.{Schema}
use Rattle.own_model.specs.declared.schema.TableDef.{TableDef}
use Rattle.own_model.specs.Db.{Db, Row}
use Rattle.own_model.specs.Stored.{has_key, is_equal, rows_at}
use Rattle.own_base.specs.Key.{key_cmp}
use Rattle.query_model.specs.Footprints.{key_column, pinned_key}
use Rattle.query_model.specs.Truth.{keeps}
use Rattle.run_model.specs.Agree.{keys_meet}
use Rattle.run_model.specs.Update.{Sets, updated, updated_rows}
use Rattle.run_model.proofs.FoundRows.{find-map}
use Rattle.run_model.proofs.PinnedRows.{not-kept, whole_meets}
use Rattle.run_model.proofs.RisingKeys.{AreKeyless, key-updated}
use Rattle.run_model.proofs.TableRows.{AreInPlace, AreSame}

module _ (sets : Sets) (cond : Option BoundCond) where
  -- a row after the UPDATE
  abbrev pub changed : Row → Row
  changed row = if keeps cond row then updated sets row else row

  has_stays : (table : TableDef) (key : Key) → AreKeyless table sets → (row : Row) → has_key table key (changed row) ≡ has_key table key row
  has_stays table key spared row = by (keeps cond row)
    where
      by : (b : Bool) → has_key table key (if b then updated sets row else row) ≡ has_key table key row
      by true = ap (λ own. is_equal (key_cmp own key)) (key-updated table sets spared row)
      by false = refl

  pub found-updated : (table : TableDef) (key : Key) → AreKeyless table sets → (rows : List Row)
      → find (has_key table key) (updated_rows sets cond rows) ≡ option_map changed (find (has_key table key) rows)
  unfolding updated_rows
  found-updated table key spared rows = find-map (has_key table key) changed (has_stays table key spared) rows

  module _ (schema : Schema) (number : TableNo) (spared : (table : TableDef) → slice_get schema.tables number.0 ≡ Some table → AreKeyless table sets) where
    -- rows that are the same stay so
    pub same-updated : (key : Option Key) (rows others : List Row) → AreSame schema number.0 key rows others
        → AreSame schema number.0 key (updated_rows sets cond rows) (updated_rows sets cond others)
    same-updated None rows others same = ap (updated_rows sets cond) same
    same-updated (Some key) rows others same = λ table is.
        let own = spared table is in
        found-updated table key own rows ∙ (ap (option_map changed) (same table is) ∙ sym (found-updated table key own others))

  -- a row that isn't kept stays
  unchanged : (found : Option Row) → ((row : Row) → found ≡ Some row → keeps cond row ≡ false) → option_map changed found ≡ found
  unchanged None kept = refl
  unchanged (Some row) kept = rw (kept row refl) refl

  module _ (db : Db) (place : AreInPlace db) (number : TableNo)
      (spared : (table : TableDef) → slice_get db.schema.tables number.0 ≡ Some table → AreKeyless table sets) where
    -- rows of keys that the condition doesn't pin stay
    pub still-updated : (key : Option Key) → keys_meet (pinned_key (key_column db.schema number) cond) key ≡ false
        → AreSame db.schema number.0 key (rows_at db.rows number.0) (updated_rows sets cond (rows_at db.rows number.0))
    still-updated None apart = let never : true ≡ false = sym (whole_meets _) ∙ apart in cc
    still-updated (Some key) apart = λ table is.
        sym (found-updated table key (spared table is) (rows_at db.rows number.0)
        ∙ unchanged (find (has_key table key) (rows_at db.rows number.0)) (λ row found. not-kept db place number key table is row found cond apart))
