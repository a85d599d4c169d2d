-- What is left of a row differs from the row exactly where it loses a value that isn't NULL.
use Rattle.std.proofs.Common.{◌≡◌, ℕ, ◌+◌, [], ◌∷◌, map, Bool, true, false, cond, not, refl, ap, sym, ◌∙◌}
use Rattle.std.specs.Prelude.{◌&&◌, ◌||◌, if◌then◌else◌}
use Rattle.std.specs.List.{enumerate_from, list_any}
use Rattle.std.proofs.lemmas.Bool.{or_parts}
use Rattle.own_base.specs.declared.row_name.RowName.{RowName}
use Rattle.own_base.specs.declared.value.Value.{Value}
use Rattle.own_base.specs.declared.value.Value.TheVariants.{Null, Int, Text, Sum}
use Rattle.own_model.specs.declared.schema.TableDef.{TableDef}
use Rattle.own_model.specs.Db.{Db, Row}
use Rattle.query_model.specs.Truth.{is_null}
use Rattle.subject_model.specs.Forget.{left_of, loses}
use Rattle.subject_model.specs.Named.{NamedRow}
use Rattle.subject_erase.specs.Erasures.{loses_some}

null_is : (value : Value) → is_null value ≡ true → value ≡ Null
null_is Null is = refl
null_is (Int number) is = let never : false ≡ true = is in cc
null_is (Text bytes) is = let never : false ≡ true = is in cc
null_is (Sum number) is = let never : false ≡ true = is in cc

is_null-from : (value : Value) → value ≡ Null → is_null value ≡ true
is_null-from value is = ap is_null is

module _ (lost : ℕ × Value → Bool) where
  abbrev left : ℕ × Value → Value
  left numbered = if lost numbered then Null else numbered.1

  abbrev loses_value : ℕ × Value → Bool
  loses_value numbered = lost numbered && not (is_null numbered.1)

  value_kept : (value : Value) → (gone null : Bool) → is_null value ≡ null → (gone && not null) ≡ false → cond gone Null value ≡ value
  value_kept value true true is none = sym (null_is value is)
  value_kept value true false is none = let never : true ≡ false = none in cc
  value_kept value false null is none = refl

  value_lost : (value : Value) → (gone null : Bool) → is_null value ≡ null → (gone && not null) ≡ true → value ≡ cond gone Null value → ⊥
  value_lost value true true is some same = let never : false ≡ true = some in cc
  value_lost value true false is some same = let never : true ≡ false = sym (is_null-from value same) ∙ is in cc
  value_lost value false null is some same = let never : false ≡ true = some in cc

  kept_from : (number : ℕ) (row : Row) → list_any loses_value (enumerate_from number row) ≡ false → map left (enumerate_from number row) ≡ row
  kept_from number [] none = refl
  kept_from number (value ∷ row) none =
      let both = or_parts (loses_value (number, value)) (list_any loses_value (enumerate_from (number + 1) row)) none in
      rw (value_kept value (lost (number, value)) (is_null value) refl both.0, kept_from (number + 1) row both.1) refl

  lost_from : (number : ℕ) (row : Row) → list_any loses_value (enumerate_from number row) ≡ true → row ≡ map left (enumerate_from number row) → ⊥
  lost_from number [] some same = let never : false ≡ true = some in cc
  lost_from number (value ∷ row) some same = by (lost_from (number + 1) row) (loses_value (number, value)) refl some
    where
      by : (list_any loses_value (enumerate_from (number + 1) row) ≡ true → row ≡ map left (enumerate_from (number + 1) row) → ⊥)
          → (b : Bool) → loses_value (number, value) ≡ b → (b || list_any loses_value (enumerate_from (number + 1) row)) ≡ true → ⊥
      by more true here any =
          let first : value ≡ left (number, value) = cc in
          value_lost value (lost (number, value)) (is_null value) refl here first
      by more false here any =
          let rest : row ≡ map left (enumerate_from (number + 1) row) = cc in
          more any rest

-- a row that loses nothing is left as it was
pub left_of-kept : (db : Db) (subject : RowName) (table : TableDef) (named : NamedRow) → loses_some db subject table named ≡ false → left_of db subject table named ≡ named.row
left_of-kept db subject table named none = kept_from (loses db subject table named.name) 0 named.row none

-- and one that loses something isn't
pub left_of-lost : (db : Db) (subject : RowName) (table : TableDef) (named : NamedRow) → loses_some db subject table named ≡ true → named.row ≡ left_of db subject table named → ⊥
left_of-lost db subject table named some = lost_from (loses db subject table named.name) 0 named.row some
