-- What a FORGET neither removes nor changes stays as it is.
use Rattle.std.proofs.Common.{◌≡◌, ℕ, ◌+◌, [], ◌∷◌, ◌++◌, map, Bool, true, false, not, refl, ap, sym, ◌∙◌}
use Rattle.std.specs.Prelude.{◌&&◌, Option, Some, None, filter, slice_get, if◌then◌else◌}
use Rattle.std.specs.List.{enumerate_from, list_any}
use Rattle.std.proofs.lemmas.Bool.{and_from, false_from_ne_true, or_parts, not_from_false}
use Rattle.std.proofs.lemmas.List.Folds.{list_any-append}
use Rattle.own_base.specs.declared.row_name.RowName.{RowName}
use Rattle.own_base.specs.declared.value.Value.{Value}
use Rattle.own_base.specs.declared.value.Value.TheVariants.{Null, Int, Text, Sum}
use Rattle.own_model.specs.declared.schema.TableDef.{TableDef}
use Rattle.own_model.specs.Db.{Db, IsOrdered, Row}
use Rattle.own_model.specs.Stored.{row_named}
use Rattle.owner_model.specs.Joins.{row_of}
use Rattle.query_model.specs.Truth.{is_null}
use Rattle.schema_model.specs.OwnerSchema.{IsOwnerSchema}
use Rattle.subject_model.specs.Forget.{changed, forget, is_changed, left_of, loses, removed}
use Rattle.subject_model.specs.Named.{NamedRow, is_name, named_rows}
use Rattle.subject_model.specs.Stays.{stays}
use Rattle.subject_model.proofs.ForgetKeys.{kept_value}
use Rattle.subject_model.proofs.ForgetRows.{row_of-forget}
use Rattle.subject_model.proofs.Members.{any_contained, contains_filter, contains_map}
use Rattle.subject_model.proofs.NamedLemmas.{name_is, named-row_of}

-- a value that isn't lost, or is NULL, is kept
keeps_value : (lost : Bool) (value : Value) → (lost && not (is_null value)) ≡ false → kept_value lost value ≡ value
keeps_value true Null none = refl
keeps_value true (Int number) none = let never : true ≡ false = none in cc
keeps_value true (Text bytes) none = let never : true ≡ false = none in cc
keeps_value true (Sum number) none = let never : true ≡ false = none in cc
keeps_value false value none = refl

-- so a row of which no value is lost but NULL is kept
pub keeps_row : (lost : ℕ × Value → Bool) (number : ℕ) (row : Row) → list_any (λ numbered. lost numbered && not (is_null numbered.1)) (enumerate_from number row) ≡ false
    → map (λ numbered. kept_value (lost numbered) numbered.1) (enumerate_from number row) ≡ row
keeps_row lost number [] none = refl
keeps_row lost number (value ∷ row) none =
    let both = or_parts (lost (number, value) && not (is_null value)) (list_any (λ numbered. lost numbered && not (is_null numbered.1)) (enumerate_from (number + 1) row)) none in
    let own = keeps_value (lost (number, value)) value both.0 in
    let rest = keeps_row lost (number + 1) row both.1 in
    rw (own, rest) refl

module _ (db : Db) (subject name : RowName) (ordered : IsOrdered db) where
  -- a row that doesn't stay is among those removed
  removed_there : (row : Row) → row_of db name ≡ Some row → stays db subject name ≡ false → list_any (is_name name) (removed db subject) ≡ true
  unfolding removed
  removed_there row there gone =
      let named : NamedRow = record { name = name; row = row } in
      let goes : NamedRow → Bool = λ named. not (stays db subject named.name) in
      any_contained (is_name name) (removed db subject) name
      (contains_map (λ (named : NamedRow). named.name) (filter goes (named_rows db)) named
      (contains_filter goes (named_rows db) named (named-row_of db named ordered there) (not_from_false _ gone)))
      (name_is name name refl)

  -- and one that stays and loses a value among those changed
  changed_there : (row : Row) → row_of db name ≡ Some row → stays db subject name ≡ true → is_changed db subject (record { name = name; row = row }) ≡ true
      → list_any (is_name name) (changed db subject) ≡ true
  unfolding changed
  changed_there row there stay loses =
      let named : NamedRow = record { name = name; row = row } in
      let passes : NamedRow → Bool = λ named. stays db subject named.name && is_changed db subject named in
      any_contained (is_name name) (changed db subject) name
      (contains_map (λ (named : NamedRow). named.name) (filter passes (named_rows db)) named
      (contains_filter passes (named_rows db) named (named-row_of db named ordered there) (and_from _ _ stay loses)))
      (name_is name name refl)

  module _ (owner : IsOwnerSchema db.schema) (not_removed : list_any (is_name name) (removed db subject) ≡ false) (not_changed : list_any (is_name name) (changed db subject) ≡ false) where
    spared_row : (table : TableDef) (row : Row) → slice_get db.schema.tables name.table.0 ≡ Some table → row_of db name ≡ Some row → (stay : Bool) → stays db subject name ≡ stay
        → (if stay then Some (left_of db subject table (record { name = name; row = row })) else None) ≡ Some row
    spared_row table row is there true stay =
        let same : is_changed db subject (record { name = name; row = row }) ≡ false = false_from_ne_true _ (λ loses. let yes = changed_there row there stay loses in let never : true ≡ false = sym yes ∙ not_changed in cc) in
        let none : list_any (λ numbered. loses db subject table name numbered && not (is_null numbered.1)) (enumerate_from 0 row) ≡ false = rw is at same in
        ap Some (keeps_row (loses db subject table name) 0 row none)
    spared_row table row is there false gone = let yes = removed_there row there gone in let never : true ≡ false = sym yes ∙ not_removed in cc

    spared_found : (table : TableDef) → slice_get db.schema.tables name.table.0 ≡ Some table → (found : Option Row) → row_of db name ≡ found → row_of (forget db subject) name ≡ found
    spared_found table is None none = row_of-forget db subject name table owner is ∙ rw none refl
    spared_found table is (Some row) some = row_of-forget db subject name table owner is ∙ rw some (spared_row table row is some _ refl)

    spared_table : (found : Option TableDef) → slice_get db.schema.tables name.table.0 ≡ found → row_of (forget db subject) name ≡ row_of db name
    unfolding forget row_named
    spared_table None none = rw none refl
    spared_table (Some table) some = spared_found table some _ refl

-- a name that a FORGET neither removes nor changes has the row that it had
pub row_of-spared : (db : Db) (subject name : RowName) → IsOrdered db → IsOwnerSchema db.schema → list_any (is_name name) (removed db subject ++ changed db subject) ≡ false
    → row_of (forget db subject) name ≡ row_of db name
row_of-spared db subject name ordered owner spared =
    let both = or_parts _ _ (sym (list_any-append (is_name name) (removed db subject) (changed db subject)) ∙ spared) in
    spared_table db subject name ordered owner both.0 both.1 _ refl
