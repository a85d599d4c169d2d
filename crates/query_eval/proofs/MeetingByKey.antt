-- The row of a table whose primary key meets a value.
use Rattle.std.proofs.Common.{arith, ◌≡◌, ℕ, ◌<◌, List, [], true, false, Option, Some, None, inl, inr, length, refl, sym, ap, ◌∙◌}
use Rattle.std.specs.Option.{option_map_or, option_to_list}
use Rattle.std.specs.declared.cmp.Ordering.TheVariants.{Equal}
use Rattle.std.proofs.lemmas.Option.{slice_get_cases}
use Rattle.own_base.specs.Key.{key_cmp}
use Rattle.own_base.specs.declared.number.TableNo.{TableNo}
use Rattle.own_base.specs.declared.row_name.RowName.{RowName}
use Rattle.own_base.specs.declared.value.Key.{Key}
use Rattle.own_base.specs.declared.value.Value.{Value}
use Rattle.own_base.specs.declared.value.Value.TheVariants.{Null, Int, Text, Sum}
use Rattle.own_model.specs.declared.condition.Cmp.TheVariants.{Eq}
use Rattle.own_model.specs.declared.schema.Schema.{Schema}
use Rattle.own_model.specs.declared.schema.TableDef.{TableDef}
use Rattle.own_model.specs.declared.truth.Truth.{Truth as Answer}
use Rattle.own_model.specs.declared.truth.Truth.TheVariants.{True, False, Unknown}
use Rattle.own_model.specs.Db.{Row, as_key, key_of}
use Rattle.own_model.specs.Stored.{is_equal, row_named, rows_at}
use Rattle.query_model.specs.Footprints.{key_column, literal_key}
use Rattle.query_model.specs.Truth.{cell, compared, comparison, is_true}
use Rattle.query_eval.specs.Meetings.{meeting, meets}
use Rattle.query_model.specs.Stored.{IsStored}
use Rattle.query_eval.specs.Tables.{AreTables}
use Rattle.query_eval.proofs.MeetingRows.{meeting-null, meets-back}
use Rattle.query_model.proofs.PinnedRow.{same_key}
use Rattle.query_model.proofs.RowOfKey.{passing_of_rising}
use Rattle.query_eval.proofs.TableRows.{rising_at, stored_at, stored_cells}

-- a value that is no key meets no key
no_meeting : (value other : Value) (key : Key) → literal_key value ≡ Some key → IsStored other → is_equal (key_cmp (as_key other) key) ≡ false → meets value other ≡ false
no_meeting value other key is stored apart = meets-back value other ∙ by (comparison Eq (compared other value)) refl
  where
    by : (answer : Answer) → comparison Eq (compared other value) ≡ answer → is_true answer ≡ false
    by True met = let equal : key_cmp (as_key other) key ≡ Equal = same_key key other value stored is met in let never : true ≡ false = ap is_equal (sym equal) ∙ apart in cc
    by False met = refl
    by Unknown met = refl

-- a stored value that is no key is NULL, and meets nothing
pub meeting-no_key : (value : Value) (column : ℕ) (rows : List Row) → literal_key value ≡ None → IsStored value → [] ≡ meeting value column rows
meeting-no_key Null column rows none stored = sym (meeting-null column rows)
meeting-no_key (Int number) column rows none stored = cc
meeting-no_key (Text bytes) column rows none stored = cc
meeting-no_key (Sum number) column rows none stored = absurd stored

-- the name of a row
abbrev named : TableNo → Key → RowName
named table key = record { table = table; key = key }

-- the rows whose primary key meets a value are the row of that key, where it meets it
pub meeting-of_table : (schema : Schema) (rows : List (List Row)) (table : TableNo) (column : ℕ) (value : Value) (key : Key) → AreTables schema rows → table.0 < length schema.tables
    → column ≡ key_column schema table → literal_key value ≡ Some key
    → meeting value column (option_to_list (row_named schema rows (named table key))) ≡ meeting value column (rows_at rows table.0)
unfolding row_named key_of
meeting-of_table schema rows table column value key tables there of is = elim ((slice_get_cases schema.tables table.0).1) [
  | inl (definition, within, found, at) ↦
      let here : column ≡ definition.key.0 = of ∙ ap (λ (o : Option TableDef). option_map_or (λ definition. definition.key.0) o 0) found in
      rw (here, found)
      (sym (passing_of_rising definition key (λ row. meets value (cell row definition.key.0)) (λ row stored apart. no_meeting value (cell row definition.key.0) key is stored apart)
      (rows_at rows table.0) (rising_at schema.tables rows table.0 definition tables.rising found) (stored_cells definition.key.0 (rows_at rows table.0) (stored_at rows table.0 tables.stored))))
  | inr (past, none) ↦ absurd (omega arith)
]

-- the rows whose primary key meets a value
pub ruleset meeting_by_key = (meeting-of_table, meeting-no_key)
