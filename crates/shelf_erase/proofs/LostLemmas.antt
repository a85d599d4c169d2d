-- What a row loses, told by the changes by which rows go.
use Rattle.std.proofs.Common.{◌≡◌, ℕ, ◌+◌, ◌<◌, ◌≤◌, List, [], ◌∷◌, length, map, Bool, true, false, not, cond, refl, ap, ◌∙◌, arith}
use Rattle.std.specs.Prelude.{◌&&◌, ◌||◌, Option, Some, None, is_some, slice_get, if◌then◌else◌}
use Rattle.std.specs.List.{enumerate_from, list_any}
use Rattle.std.specs.Option.{option_and_then, option_map_or}
use Rattle.own_base.specs.declared.change.Change.{Change}
use Rattle.own_base.specs.declared.number.ColumnSet.{ColumnSet}
use Rattle.own_base.specs.declared.number.TableNo.{TableNo}
use Rattle.own_base.specs.declared.row_name.RowName.{RowName}
use Rattle.own_base.specs.declared.value.Key.{Key}
use Rattle.own_base.specs.declared.value.Value.{Value}
use Rattle.own_base.specs.declared.value.Value.TheVariants.{Null}
use Rattle.own_model.specs.declared.schema.Column.{Column}
use Rattle.own_model.specs.declared.schema.RefKind.{RefKind}
use Rattle.own_model.specs.declared.schema.TableDef.{TableDef}
use Rattle.own_model.specs.Db.{Db, Row}
use Rattle.owner_model.specs.ColumnSets.{set_of}
use Rattle.owner_model.specs.Joins.{row_of}
use Rattle.owner_model.specs.RuledColumns.{is_blanked}
use Rattle.owner_model.proofs.ColumnSetLemmas.{has_column-set_of}
use Rattle.query_model.specs.Footprints.{literal_key}
use Rattle.query_model.specs.Truth.{is_null}
use Rattle.subject_model.specs.Forget.{dangles, left_of, loses, names_going}
use Rattle.subject_model.specs.Named.{is_there}
use Rattle.subject_model.specs.Owners.{by}
use Rattle.subject_model.specs.Stays.{stays}
use Rattle.subject_erase.specs.Erasures.{erased, loses_some, removal}
use Rattle.shelf_erase.specs.ChangeAt.{as_named, change_at, removal_at}
use Rattle.shelf_erase.specs.Lost.{blanked_by, dangles_by, left_by, loses_by, loses_some_by, loses_value, names_removed, value_left}
use Rattle.shelf_erase.specs.Told.{AreTold}

map_numbered : {X Y : Type 0} (most : ℕ) (f g : ℕ × X → Y) → ((number : ℕ) (x : X) → number < most → f (number, x) ≡ g (number, x)) → (number : ℕ) (xs : List X) → number + length xs ≤ most
    → map f (enumerate_from number xs) ≡ map g (enumerate_from number xs)
map_numbered most f g same number [] few = refl
map_numbered most f g same number (x ∷ xs) few =
    rw (same number x (omega arith), map_numbered most f g same (number + 1) xs (omega arith)) refl

any_numbered : {X : Type 0} (most : ℕ) (f g : ℕ × X → Bool) → ((number : ℕ) (x : X) → number < most → f (number, x) ≡ g (number, x)) → (number : ℕ) (xs : List X) → number + length xs ≤ most
    → list_any f (enumerate_from number xs) ≡ list_any g (enumerate_from number xs)
any_numbered most f g same number [] few = refl
any_numbered most f g same number (x ∷ xs) few =
    rw (same number x (omega arith), any_numbered most f g same (number + 1) xs (omega arith)) refl

module _ (db : Db) (subject : RowName) where
  -- the change by which a row goes is there where a row is that doesn't stay
  pub removal_there : (name : RowName) → is_some (removal_at db subject name) ≡ (is_there db name && not (stays db subject name))
  unfolding removal_at
  removal_there name = by (row_of db name) (stays db subject name)
    where
      by : (row : Option Row) (stay : Bool) → is_some (option_and_then (λ row. cond stay None (Some (removal (as_named name row)))) row) ≡ (is_some row && not stay)
      by None stay = refl
      by (Some row) true = refl
      by (Some row) false = refl

  -- of a row that goes, that is what becomes of it
  pub removal-change : (name : RowName) (table : TableDef) (row : Row) (change : Change) → slice_get db.schema.tables name.table.0 ≡ Some table → row_of db name ≡ Some row
      → removal_at db subject name ≡ Some change → change_at db subject name ≡ Some change
  unfolding removal_at change_at
  removal-change name table row change table_is row_is goes = by (stays db subject name) refl (rw row_is at goes)
    where
      by : (stay : Bool) → stays db subject name ≡ stay → cond stay None (Some (removal (as_named name row))) ≡ Some change
          → option_and_then (λ table. option_and_then (λ row. erased db subject table (as_named name row)) (row_of db name)) (slice_get db.schema.tables name.table.0) ≡ Some change
      by true stay goes = let never : ◌≡◌ {A = Option Change} None (Some change) = goes in cc
      by false stay goes = rw (table_is, row_is, stay) goes

  -- and one of which there is none stays
  pub none-stays : (name : RowName) (row : Row) → row_of db name ≡ Some row → removal_at db subject name ≡ None → stays db subject name ≡ true
  unfolding removal_at
  none-stays name row row_is none = by (stays db subject name) refl (rw row_is at none)
    where
      by : (stay : Bool) → stays db subject name ≡ stay → cond stay None (Some (removal (as_named name row))) ≡ None → stays db subject name ≡ true
      by true stay none = stay
      by false stay none = let never : ◌≡◌ {A = Option Change} (Some (removal (as_named name row))) None = none in cc

  module _ (removals : List Change) (are : AreTold (removal_at db subject) removals) where
    key_going : (table : TableNo) (key : Option Key) → names_removed removals table key ≡ names_going db subject table key
    key_going table None = refl
    key_going table (Some key) = ap is_some (are.each (record { table = table; key = key })) ∙ removal_there (record { table = table; key = key })

    -- a reference dangles where it names a row that goes
    dangles-by : (column : Column) (value : Value) (refers : Option (RefKind × TableNo)) → column.refers ≡ refers → dangles_by removals column value ≡ dangles db subject column value
    dangles-by column value None refers = rw refers refl
    dangles-by column value (Some link) refers = rw refers (key_going link.1 (literal_key value))

    column-by : (table : TableDef) (number : ℕ) (value : Value) (found : Option Column) → slice_get table.columns number ≡ found
        → option_map_or (λ column. dangles_by removals column value) found false ≡ option_map_or (λ column. dangles db subject column value) found false
    column-by table number value None is = refl
    column-by table number value (Some column) is = dangles-by column value column.refers refl

    module _ (table : TableDef) (name : RowName) (row : Row) where
      abbrev ruled : ColumnSet
      ruled = set_of (is_blanked db.schema.edges (by db subject name))

      loses-by : (number : ℕ) (value : Value) → number < 32 → loses_by removals table ruled (number, value) ≡ loses db subject table name (number, value)
      unfolding loses
      loses-by number value few =
          ap (λ b. b || option_map_or (λ column. dangles_by removals column value) (slice_get table.columns number) false) (has_column-set_of (is_blanked db.schema.edges (by db subject name)) number few)
          ∙ ap (λ b. is_blanked db.schema.edges (by db subject name) number || b) (column-by table number value (slice_get table.columns number) refl)

      loses_some-by : length row ≤ 32 → loses_some_by removals table ruled row ≡ loses_some db subject table (as_named name row)
      loses_some-by few =
          any_numbered 32 (loses_value removals table ruled) (λ numbered. loses db subject table name numbered && not (is_null numbered.1))
          (λ number value within. ap (λ b. b && not (is_null value)) (loses-by number value within)) 0 row (omega arith)

      left-by : length row ≤ 32 → left_by removals table ruled row ≡ left_of db subject table (as_named name row)
      left-by few =
          map_numbered 32 (value_left removals table ruled) (λ numbered. if loses db subject table name numbered then Null else numbered.1)
          (λ number value within. ap (λ b. if b then Null else value) (loses-by number value within)) 0 row (omega arith)

      -- so is told what becomes of a row that stays
      pub blanked-by : length row ≤ 32 → slice_get db.schema.tables name.table.0 ≡ Some table → row_of db name ≡ Some row → stays db subject name ≡ true
          → blanked_by removals table ruled (as_named name row) ≡ change_at db subject name
      unfolding change_at
      blanked-by few table_is row_is stay = rw (loses_some-by few, left-by few, table_is, row_is, stay) refl
