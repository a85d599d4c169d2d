-- Changes of tables with which nothing is linked leave no fault of a UNIQUE column and none of a reference, where there was none.
use Rattle.std.proofs.Common.{◌≡◌, ℕ, List, [], Bool, true, false, not, refl, sym, ap, ◌∙◌, subst}
use Rattle.std.specs.Prelude.{◌&&◌, Contains, None, Some, Option, is_some, slice_get}
use Rattle.std.proofs.lemmas.List.Elements.{Contains-get_or}
use Rattle.std.proofs.lemmas.Option.{get_or_from_slice_get, slice_get_within}
use Rattle.own_base.specs.declared.number.TableNo.{TableNo}
use Rattle.own_base.specs.declared.value.Key.{Key}
use Rattle.own_model.specs.declared.refusal.Refusal.{Refusal}
use Rattle.own_model.specs.declared.refusal.Refusal.TheVariants.{Reference, Unique}
use Rattle.own_model.specs.declared.schema.RefKind.{RefKind}
use Rattle.own_model.specs.declared.schema.TableDef.{TableDef}
use Rattle.own_model.specs.Db.{Db, IsOrdered, Row, key_of}
use Rattle.query_model.specs.Footprints.{literal_key}
use Rattle.query_model.specs.Truth.{cell}
use Rattle.state_model.specs.Fault.{ColumnValue, breaks_reference, breaks_unique, is_shared, names_a_row, reference_faults, reference_rule, unique_faults, unique_rule}
use Rattle.state_model.proofs.FaultLemmas.{columns_pass, each_row, column_value, pass_columns, row_each}
use Rattle.commit_judge.specs.Unlinked.{is_unlinked}
use Rattle.commit_judge.proofs.LinkLemmas.{lone-refers, lone-unique, referred-linked}
use Rattle.commit_judge.proofs.SameElsewhere.{AreSameElsewhere, same_row, there_before, under}

-- what stands at a place of a list is among it
among-at : {X : Type 0} (xs : List X) (place : ℕ) (x : X) → slice_get xs place ≡ Some x → Contains xs x
among-at xs place x is = subst (λ y. Contains xs y) (get_or_from_slice_get xs place x x is) (Contains-get_or xs place x (slice_get_within xs place x is))

unique_free : (unique full shared : Bool) → unique ≡ false → ((unique && full) && shared) ≡ false
unique_free unique full shared is = rw is refl

module _ (db next : Db) (before : IsOrdered db) (after : IsOrdered (under db next)) (are : AreSameElsewhere (is_unlinked db.schema) db.rows next.rows) where
  unique_step : unique_faults db ≡ [] → (number : ℕ) (table : TableDef) (own : List Row) (row : Row) → slice_get db.schema.tables number ≡ Some table → slice_get next.rows number ≡ Some own → Contains own row
      → (lone : Bool) → is_unlinked db.schema number ≡ lone → unique_rule number table own row ≡ []
  unfolding unique_faults
  unique_step none number table own row is there among true lone =
      pass_columns (breaks_unique table own row) (λ held. Unique table.name (key_of table row) held.column.name) row table (λ place column at.
      unique_free column.unique _ (is_shared table own (key_of table row) place (cell row place)) (lone-unique db.schema number table column lone is (among-at table.columns place column at)))
  unique_step none number table own row is there among false linked =
      each_row unique_rule db none number table own row is (there_before (is_unlinked db.schema) db next are number own before after linked there) among

  pub unique-left : unique_faults db ≡ [] → unique_faults (under db next) ≡ []
  unfolding unique_faults
  unique-left none = row_each unique_rule (under db next) (λ number table own row is there among. unique_step none number table own row is there among _ refl)

  -- a reference to a linked table names a row where it did
  named_step : (link : RefKind × TableNo) (key : Option Key) → is_unlinked db.schema link.1.0 ≡ false → names_a_row db link.1 key ≡ names_a_row (under db next) link.1 key
  named_step link None linked = refl
  named_step link (Some key) linked = ap (λ (found : Option Row). is_some found) (same_row (is_unlinked db.schema) db next are (record { table = link.1; key = key }) linked)

  refers_step : (held : ColumnValue) (refers : Option (RefKind × TableNo)) → held.column.refers ≡ refers → ((link : RefKind × TableNo) → refers ≡ Some link → is_unlinked db.schema link.1.0 ≡ false)
      → breaks_reference db held ≡ breaks_reference (under db next) held
  refers_step held None is linked = rw is refl
  refers_step held (Some link) is linked = rw is (ap not (named_step link (literal_key held.value) (linked link refl)))

  free_reference : (held : ColumnValue) → held.column.refers ≡ None → breaks_reference (under db next) held ≡ false
  free_reference held is = rw is refl

  reference_step : reference_faults db ≡ [] → (number : ℕ) (table : TableDef) (own : List Row) (row : Row) → slice_get db.schema.tables number ≡ Some table → slice_get next.rows number ≡ Some own → Contains own row
      → (lone : Bool) → is_unlinked db.schema number ≡ lone → reference_rule (under db next) number table own row ≡ []
  unfolding reference_faults
  reference_step none number table own row is there among true lone =
      pass_columns (breaks_reference (under db next)) (λ held. Reference table.name (key_of table row) held.column.name) row table (λ place column at.
      free_reference (column_value row place column) (lone-refers db.schema number table column lone is (among-at table.columns place column at)))
  reference_step none number table own row is there among false linked =
      let why : ColumnValue → Refusal = λ held. Reference table.name (key_of table row) held.column.name in
      let had = each_row (reference_rule db) db none number table own row is (there_before (is_unlinked db.schema) db next are number own before after linked there) among in
      pass_columns (breaks_reference (under db next)) why row table (λ place column at.
      let passed = columns_pass (breaks_reference db) why row table had place column at in
      sym (refers_step (column_value row place column) column.refers refl (λ link refers. referred-linked db.schema table column link (among-at db.schema.tables number table is) (among-at table.columns place column at) refers)) ∙ passed)

  pub reference-left : reference_faults db ≡ [] → reference_faults (under db next) ≡ []
  unfolding reference_faults
  reference-left none = row_each (reference_rule (under db next)) (under db next) (λ number table own row is there among. reference_step none number table own row is there among _ refl)
