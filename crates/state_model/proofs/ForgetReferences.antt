-- A FORGET leaves no reference to a row that isn't there.
use Rattle.std.proofs.Common.{◌≡◌, ℕ, List, [], Bool, true, false, refl, sym, ◌∙◌, subst}
use Rattle.std.specs.Prelude.{◌&&◌, not, Option, Some, None, slice_get}
use Rattle.std.proofs.lemmas.Bool.{and_from, not-false, not_from_true, or_parts}
use Rattle.own_base.specs.declared.number.TableNo.{TableNo}
use Rattle.own_base.specs.declared.row_name.RowName.{RowName}
use Rattle.own_base.specs.declared.value.Key.{Key}
use Rattle.own_base.specs.declared.value.Value.{Value}
use Rattle.own_model.specs.declared.refusal.Refusal.TheVariants.{Reference}
use Rattle.own_model.specs.declared.schema.Column.{Column}
use Rattle.own_model.specs.declared.schema.RefKind.{RefKind}
use Rattle.own_model.specs.declared.schema.TableDef.{TableDef}
use Rattle.own_model.specs.Db.{Db, Row, key_of}
use Rattle.owner_model.specs.RuledColumns.{is_blanked}
use Rattle.query_model.specs.Footprints.{literal_key}
use Rattle.query_model.specs.Truth.{cell}
use Rattle.schema_model.specs.OwnerSchema.{IsOwnerSchema}
use Rattle.subject_model.specs.Forget.{dangles_at, forget, loses, names_going}
use Rattle.subject_model.specs.Named.{is_there, name_of}
use Rattle.subject_model.specs.Owners.{by}
use Rattle.subject_model.specs.Stays.{stays}
use Rattle.subject_model.proofs.ForgetKeys.{cell_left, kept_value}
use Rattle.subject_model.proofs.ForgetRows.{is_there-forget, named_in, row_left}
use Rattle.state_model.specs.Fault.{breaks_reference, names_a_row, reference_rule}
use Rattle.state_model.proofs.FaultLemmas.{columns_pass, pass_columns}

module _ (db : Db) (subject : RowName) (owner : IsOwnerSchema db.schema) where
  -- a row that is there, and isn't going, is there after
  there_still : (name : RowName) → is_there db name ≡ true → (is_there db name && not (stays db subject name)) ≡ false → is_there (forget db subject) name ≡ true
  there_still name there rests =
      let own : not (stays db subject name) ≡ false = rw there at rests in
      is_there-forget db subject name owner ∙ and_from _ _ there (not-false (stays db subject name) own)

  key_case : (table : TableNo) (key : Option Key) → not (names_a_row db table key) ≡ false → names_going db subject table key ≡ false → not (names_a_row (forget db subject) table key) ≡ false
  key_case table None named rests = refl
  key_case table (Some key) named rests = not_from_true _ (there_still (record { table = table; key = key }) (not-false _ named) rests)

  refers_case : (table : TableDef) (name : RowName) (number : ℕ) (column : Column) (value : Value) → slice_get table.columns number ≡ Some column
      → (refers : Option (RefKind × TableNo)) → column.refers ≡ refers → breaks_reference db (record { number = number; column = column; value = value }) ≡ false
      → (lost : Bool) → loses db subject table name (number, value) ≡ lost → breaks_reference (forget db subject) (record { number = number; column = column; value = kept_value lost value }) ≡ false
  unfolding loses
  refers_case table name number column value is None none before lost loses = rw none refl
  refers_case table name number column value is (Some link) some before true loses = rw some refl
  refers_case table name number column value is (Some link) some before false loses =
      let named : not (names_a_row db link.1 (literal_key value)) ≡ false = rw some at before in
      let both = or_parts (is_blanked db.schema.edges (by db subject name) number) (dangles_at db subject table (number, value)) loses in
      let rests : names_going db subject link.1 (literal_key value) ≡ false = rw (is, some) at both.1 in
      rw some (key_case link.1 (literal_key value) named rests)

  -- so of a row that is left nothing is refused
  pub reference-left : (number : ℕ) (table : TableDef) (rows others : List Row) (row : Row) → reference_rule db number table rows row ≡ []
      → reference_rule (forget db subject) number table others (row_left db subject number table row) ≡ []
  reference-left number table rows others row none =
      pass_columns (breaks_reference (forget db subject)) _ (row_left db subject number table row) table (λ place column is.
      let value = cell row place in
      let before = columns_pass (breaks_reference db) (λ held. Reference table.name (key_of table row) held.column.name) row table none place column is in
      let kept = cell_left db subject table (named_in number table row) place in
      subst (λ (v : Value). breaks_reference (forget db subject) (record { number = place; column = column; value = v }) ≡ false) (sym kept)
      (refers_case table (name_of number table row) place column value is _ refl before _ refl))
