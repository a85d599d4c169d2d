-- Of which rows nothing becomes: each that a subject doesn't reach, and that refers to no row that goes.
use Rattle.std.proofs.Common.{◌≡◌, ℕ, [], ◌∷◌, map, Bool, true, false, not, inl, inr, refl, ap, sym, ◌∙◌, eq-eqb, arith}
use Rattle.std.specs.Prelude.{◌⊎◌, ◌&&◌, ◌||◌, Option, Some, None, is_some, slice_get}
use Rattle.std.specs.List.{enumerate_from}
use Rattle.std.specs.Option.{option_and_then, option_map_or}
use Rattle.std.proofs.lemmas.Bool.{and_parts, false_from_ne_true}
use Rattle.own_base.specs.declared.row_name.RowName.{RowName}
use Rattle.own_base.specs.declared.number.TableNo.{TableNo}
use Rattle.own_base.specs.declared.value.Key.{Key}
use Rattle.own_base.specs.declared.value.Key.TheVariants as key
use Rattle.own_base.specs.declared.value.Value.{Value}
use Rattle.own_base.specs.declared.value.Value.TheVariants.{Null, Int, Text, Sum}
use Rattle.own_model.specs.declared.schema.Column.{Column}
use Rattle.own_model.specs.declared.schema.Edge.{Edge}
use Rattle.own_model.specs.declared.schema.RefKind.{RefKind}
use Rattle.own_model.specs.declared.schema.TableDef.{TableDef}
use Rattle.own_model.specs.Db.{Db, IsOrdered, Row}
use Rattle.owner_model.specs.Joins.{row_of, value_of}
use Rattle.owner_model.specs.RuledColumns.{is_blanked}
use Rattle.page_model.proofs.ChangedLemmas.{filter_none}
use Rattle.query_model.specs.Footprints.{literal_key}
use Rattle.query_model.specs.Truth.{is_null}
use Rattle.schema_model.specs.OwnerSchema.{IsOwnerSchema}
use Rattle.schema_model.specs.Tables.{is_subject}
use Rattle.schema_model.proofs.Places.{any-place, slice_get-enumerate_from}
use Rattle.state_model.specs.Consistent.{IsConsistent}
use Rattle.subject_model.specs.Forget.{dangles, dangles_at, is_going, loses, names_going}
use Rattle.subject_model.specs.Owners.{Owns, Reaches, by, owns, reaches, reaches_by}
use Rattle.subject_model.specs.Stays.{stays}
use Rattle.subject_model.proofs.Members.{all_from_contained}
use Rattle.subject_model.proofs.OwnerLemmas.{by_from, from_owns, from_reaches, owns_from, reaches_from}
use Rattle.subject_erase.specs.Erasures.{erased, loses_some}
use Rattle.shelf_erase.specs.ChangeAt.{as_named, change_at, removal_at}
use Rattle.shelf_erase.specs.Refers.{RefersToGone}
use Rattle.shelf_erase.proofs.Locally.{others-stay}
use Rattle.shelf_erase.proofs.Strikes.{StrikeAsOwners}

-- a value that names a key is the key's
literal_is : (value : Value) (key : Key) → literal_key value ≡ Some key → value ≡ value_of key
literal_is Null key is = let never : ◌≡◌ {A = Option Key} None (Some key) = is in cc
literal_is (Int number) (key.Int own) is = let same : number ≡ own = cc in ap Int same
literal_is (Int number) (key.Text own) is = let never : ⊥ = cc in absurd never
literal_is (Text bytes) (key.Int own) is = let never : ⊥ = cc in absurd never
literal_is (Text bytes) (key.Text own) is = let same : bytes ≡ own = cc in ap Text same
literal_is (Sum number) key is = let never : ◌≡◌ {A = Option Key} None (Some key) = is in cc

module _ (db : Db) (subject : RowName) (ordered : IsOrdered db) (owner : IsOwnerSchema db.schema) where
  -- no edge is one by which a subject reaches a row that it doesn't reach
  unreached : (name : RowName) → reaches db subject name ≡ false → by db subject name ≡ []
  unfolding by
  unreached name none =
      ap (map (λ (edge : Edge). edge.number))
      (filter_none (reaches_by db subject name) db.schema.edges
      (all_from_contained (λ edge. reaches_by db subject name edge ≡ false) db.schema.edges
      (λ edge among. false_from_ne_true (reaches_by db subject name edge) (λ is.
      let path = by_from db subject name edge owner among is in
      let reached : reaches db subject name ≡ true = from_reaches db subject name ordered owner (record { path = record { edge = edge; upper = path.upper } ∷ path.rest; leads = path.leads }) in
      let never : true ≡ false = sym reached ∙ none in cc))))

  -- what a row loses then is a reference
  lost_reference : (name : RowName) (table : TableDef) (numbered : ℕ × Value) → by db subject name ≡ [] → loses db subject table name numbered ≡ true → dangles_at db subject table numbered ≡ true
  unfolding loses
  lost_reference name table numbered none lost = ap (λ edges. is_blanked db.schema.edges edges numbered.0 || dangles_at db subject table numbered) (sym none) ∙ lost

  going_named : (table : TableNo) (value : Value) (key : Option Key) → literal_key value ≡ key → names_going db subject table key ≡ true → (own : Key) × (value ≡ value_of own) × (is_going db subject (record { table = table; key = own }) ≡ true)
  going_named table value None is goes = let never : false ≡ true = goes in cc
  going_named table value (Some key) is goes = (key, literal_is value key is, goes)

  module _ (name : RowName) (table : TableDef) (row : Row) (table_is : slice_get db.schema.tables name.table.0 ≡ Some table) (row_is : row_of db name ≡ Some row) where
    by_link : (number : ℕ) (column : Column) (value : Value) → slice_get table.columns number ≡ Some column → slice_get row number ≡ Some value
        → (refers : Option (RefKind × TableNo)) → column.refers ≡ refers → dangles db subject column value ≡ true → RefersToGone db subject name
    by_link number column value column_is value_is None refers lost = let never : false ≡ true = rw refers at lost in cc
    by_link number column value column_is value_is (Some link) refers lost =
        let goes : names_going db subject link.1 (literal_key value) ≡ true = rw refers at lost in
        let (key, same, gone) = going_named link.1 value (literal_key value) refl goes in
        record {
          gone = record { table = link.1; key = key };
          goes = gone;
          refers = record {
            table = name.table.0;
            by = record {
              definition = table;
              table_is = table_is;
              number = number;
              refers = record {
                column = column;
                column_is = column_is;
                refers = record {
                  of_table = refl;
                  refers = rw refers (eq-eqb link.1.0 link.1.0 refl);
                  holds = ap (option_and_then (λ values. slice_get values number)) row_is ∙ (value_is ∙ ap Some same);
                };
              };
            };
          };
        }

    by_column : (number : ℕ) (value : Value) → slice_get row number ≡ Some value → (column : Option Column) → slice_get table.columns number ≡ column
        → option_map_or (λ column. dangles db subject column value) column false ≡ true → RefersToGone db subject name
    by_column number value value_is None column_is lost = let never : false ≡ true = lost in cc
    by_column number value value_is (Some column) column_is lost = by_link number column value column_is value_is column.refers refl lost

    some_lost : by db subject name ≡ [] → loses_some db subject table (as_named name row) ≡ true → RefersToGone db subject name
    some_lost none some =
        let (numbered, at, passes) = any-place (λ numbered. loses db subject table name numbered && not (is_null numbered.1)) (enumerate_from 0 row) some in
        let both = and_parts (loses db subject table name numbered) (not (is_null numbered.1)) passes in
        let (place, value_is) = slice_get-enumerate_from 0 row at.0 numbered at.1 in
        let number : numbered.0 ≡ at.0 = omega (arith, place) in
        by_column numbered.0 numbered.1 (ap (slice_get row) number ∙ value_is) (slice_get table.columns numbered.0) refl (lost_reference name table numbered none both.0)

    nothing : stays db subject name ≡ true → loses_some db subject table (as_named name row) ≡ false → change_at db subject name ≡ None
    unfolding change_at
    nothing stay none = rw (table_is, row_is, stay, none) refl

  module _ (of_subjects : is_subject db.schema subject.table.0 ≡ true) (strikes : StrikeAsOwners db.schema) (consistent : IsConsistent db) where
    row_case : (name : RowName) (table : TableDef) (row : Row) → slice_get db.schema.tables name.table.0 ≡ Some table → row_of db name ≡ Some row
        → (reached lost : Bool) → reaches db subject name ≡ reached → loses_some db subject table (as_named name row) ≡ lost
        → (Reaches db subject name ⊎ RefersToGone db subject name) ⊎ (change_at db subject name ≡ None)
    row_case name table row table_is row_is true lost reached some = inl (inl (reaches_from db subject name reached))
    row_case name table row table_is row_is false true reached some = inl (inr (some_lost name table row table_is row_is (unreached name reached) some))
    row_case name table row table_is row_is false false reached none =
        let stay = others-stay db subject ordered owner of_subjects strikes consistent name (ap is_some row_is) (λ own.
        let is : reaches db subject name ≡ true = from_reaches db subject name ordered owner (record { path = own.path; leads = own.leads }) in
        let never : true ≡ false = sym is ∙ reached in cc) in
        inr (nothing name table row table_is row_is stay none)

    -- A row of which anything becomes is one that the subject reaches, or refers to one that goes.
    pub reached_or_refers : (name : RowName) → (Reaches db subject name ⊎ RefersToGone db subject name) ⊎ (change_at db subject name ≡ None)
    unfolding change_at
    reached_or_refers name = by (slice_get db.schema.tables name.table.0) refl (row_of db name) refl
      where
        by : (table : Option TableDef) → slice_get db.schema.tables name.table.0 ≡ table → (row : Option Row) → row_of db name ≡ row
            → (Reaches db subject name ⊎ RefersToGone db subject name) ⊎ (change_at db subject name ≡ None)
        by None table_is row row_is = inr (ap (option_and_then (λ table. option_and_then (λ row. erased db subject table (as_named name row)) (row_of db name))) table_is)
        by (Some table) table_is None row_is = inr (rw (table_is, row_is) refl)
        by (Some table) table_is (Some row) row_is = row_case name table row table_is row_is (reaches db subject name) (loses_some db subject table (as_named name row)) refl refl

    -- a row that goes is the subject's
    pub goes_owned : (name : RowName) → Owns db subject name ⊎ (removal_at db subject name ≡ None)
    unfolding removal_at
    goes_owned name = by (row_of db name) refl (owns db subject name) refl
      where
        by : (row : Option Row) → row_of db name ≡ row → (own : Bool) → owns db subject name ≡ own → Owns db subject name ⊎ (removal_at db subject name ≡ None)
        by row row_is true own = inl (owns_from db subject name own)
        by None row_is false none = inr (rw row_is refl)
        by (Some row) row_is false none =
            let stay = others-stay db subject ordered owner of_subjects strikes consistent name (ap is_some row_is)
            (λ own. let never : true ≡ false = sym (from_owns db subject name ordered owner own) ∙ none in cc) in
            inr (rw (row_is, stay) refl)
