-- The rows that refer to rows that go are gone through column by column.
use Rattle.std.proofs.Common.{◌≡◌, ℕ, ◌<◌, ◌≤◌, List, length, get_or, Bool, true, false, refl, ap, sym, ◌∙◌, subst, arith}
use Rattle.std.specs.Prelude.{◌||◌, Contains, IsTrue, Option, Some, None, is_some, map, slice_get}
use Rattle.std.proofs.lemmas.Option.{slice_get_read}
use Rattle.own_base.specs.declared.change.Change.{Change}
use Rattle.own_base.specs.declared.number.TableNo.{TableNo}
use Rattle.own_base.specs.declared.row_name.RowName.{RowName}
use Rattle.own_model.specs.declared.schema.Column.{Column}
use Rattle.own_model.specs.declared.schema.RefKind.{RefKind}
use Rattle.own_model.specs.declared.schema.Schema.{Schema}
use Rattle.own_model.specs.declared.schema.TableDef.{TableDef}
use Rattle.own_model.specs.Db.{Db, IsOrdered}
use Rattle.link_model.specs.Holds.{holders_at}
use Rattle.link_model.specs.Indexed.{is_indexed_at}
use Rattle.schema_model.specs.WithinLimits.{IsTableWithin}
use Rattle.schema_model.proofs.Places.{all-at, place-lt}
use Rattle.state_model.specs.Sound.{Sound}
use Rattle.state_model.proofs.CreatedSchema.{within-created}
use Rattle.subject_model.specs.Forget.{is_going}
use Rattle.subject_model.specs.NameOrder.{name_cmp}
use Rattle.subject_model.proofs.JoinsLemmas.{same_table}
use Rattle.shelf_model.proofs.KeptRows.{found_contained, one_name}
use Rattle.shelf_erase.specs.ChangeAt.{change_at, removal_at}
use Rattle.shelf_erase.specs.Refers.{IsReferring, Refers, RefersBy, RefersOf, RefersToGone, refers_to}
use Rattle.shelf_erase.specs.Told.{AreTold, OfFirst, Tells, told}
use Rattle.shelf_erase.specs.Upper.{named}
use Rattle.shelf_erase.proofs.LostLemmas.{removal_there}
use Rattle.shelf_erase.proofs.ToldLemmas.{tells-none, tells-weaker}
use Rattle.shelf_erase.proofs.UpperLemmas.{referring}

either_true : (b : Bool) → IsTrue (b || true)
either_true true = refl
either_true false = refl

refers_some : (column : Column) (table : ℕ) (refers : Option (RefKind × TableNo)) → column.refers ≡ refers → refers_to column table ≡ true → is_some column.refers ≡ true
refers_some column table None refers is = let never : false ≡ true = rw refers at is in cc
refers_some column table (Some link) refers is = rw refers refl

-- a column that refers to a table is indexed
pub refers-indexed : (schema : Schema) (table number to : ℕ) (definition : TableDef) (column : Column) → slice_get schema.tables table ≡ Some definition → slice_get definition.columns number ≡ Some column
    → refers_to column to ≡ true → IsTrue (is_indexed_at schema table number)
refers-indexed schema table number to definition column table_is column_is refers = rw (table_is, column_is, refers_some column to column.refers refl refers) (either_true column.unique)

-- a column's number fits 32 bits
pub column-within : (db : Db) (table : ℕ) (definition : TableDef) (number : ℕ) (column : Column) → Sound db → slice_get db.schema.tables table ≡ Some definition → slice_get definition.columns number ≡ Some column → number < 32
column-within db table definition number column sound table_is column_is =
    let within : IsTableWithin definition = all-at IsTableWithin db.schema.tables (within-created db sound.well_formed.created).each table definition table_is in
    let most : length definition.columns ≤ 32 = within.columns in
    omega (arith, place-lt definition.columns number column column_is)

module _ (db : Db) (subject : RowName) where
  -- no row refers in a column that doesn't refer to the table
  pub refers-none : (gone : RowName) (table : ℕ) (column : Column) (number : ℕ) (changes : List Change) → refers_to column gone.table.0 ≡ false
      → Tells (change_at db subject) (IsReferring db gone table column number) changes changes
  refers-none gone table column number changes none =
      tells-none (change_at db subject) (IsReferring db gone table column number) changes (λ name is. let never : true ≡ false = sym is.refers ∙ none in cc)

  -- those who hold the key in it are all who refer in it
  pub refers-names : (ordered : IsOrdered db) (gone : RowName) (table : TableNo) (column : Column) (number : ℕ) (names : List RowName) (old new : List Change)
      → names ≡ map (named table) (holders_at db table.0 number gone.key) → Tells (change_at db subject) (Contains names) old new → Tells (change_at db subject) (IsReferring db gone table.0 column number) old new
  refers-names ordered gone table column number names old new lent tells =
      tells-weaker (change_at db subject) (Contains names) (IsReferring db gone table.0 column number) old new
      (λ name is. subst (λ list. Contains list name) (sym lent) (referring db table number gone.key name ordered (same_table name.table table is.of_table) is.holds)) tells

  -- the columns of a table
  pub refers-columns : (gone : RowName) (table : ℕ) (definition : TableDef) (count : ℕ) (old new : List Change) → slice_get db.schema.tables table ≡ Some definition → length definition.columns ≤ count
      → Tells (change_at db subject) (OfFirst (RefersBy db gone table definition) count) old new → Tells (change_at db subject) (RefersOf db gone table) old new
  refers-columns gone table definition count old new table_is all tells =
      tells-weaker (change_at db subject) (OfFirst (RefersBy db gone table definition) count) (RefersOf db gone table) old new
      (λ name is.
      let some : ◌≡◌ {A = Option TableDef} (Some is.definition) (Some definition) = sym is.table_is ∙ table_is in
      let same : is.definition ≡ definition = cc in
      let by : RefersBy db gone table definition is.number name = subst (λ d. RefersBy db gone table d is.number name) same is.refers in
      record { number = is.number; first = omega (arith, place-lt definition.columns is.number by.column by.column_is); is = by })
      tells

  pub refers-column : (gone : RowName) (table : ℕ) (definition : TableDef) (number : ℕ) (column : Column) (old new : List Change) → slice_get definition.columns number ≡ Some column
      → Tells (change_at db subject) (IsReferring db gone table column number) old new → Tells (change_at db subject) (RefersBy db gone table definition number) old new
  refers-column gone table definition number column old new column_is tells =
      tells-weaker (change_at db subject) (IsReferring db gone table column number) (RefersBy db gone table definition number) old new
      (λ name is.
      let some : ◌≡◌ {A = Option Column} (Some is.column) (Some column) = sym is.column_is ∙ column_is in
      let same : is.column ≡ column = cc in
      subst (λ c. IsReferring db gone table c number name) same is.refers)
      tells

  -- the tables
  pub refers-tables : (gone : RowName) (count : ℕ) (old new : List Change) → length db.schema.tables ≤ count
      → Tells (change_at db subject) (OfFirst (RefersOf db gone) count) old new → Tells (change_at db subject) (Refers db gone) old new
  refers-tables gone count old new all tells =
      tells-weaker (change_at db subject) (OfFirst (RefersOf db gone) count) (Refers db gone) old new
      (λ name is. record { number = is.table; first = omega (arith, place-lt db.schema.tables is.table is.by.definition is.by.table_is); is = is.by })
      tells

  -- the rows that go
  pub record RefersToAt (gone : List Change) (number : ℕ) (name : RowName) : Type 0 where
    pub change : Change
    pub change_is : slice_get gone number ≡ Some change
    pub refers : Refers db change.name name

  pub refers-one : (gone : List Change) (number : ℕ) (change : Change) (old new : List Change) → number < length gone → change ≡ get_or gone number change
      → Tells (change_at db subject) (Refers db change.name) old new → Tells (change_at db subject) (RefersToAt gone number) old new
  refers-one gone number change old new within next tells =
      tells-weaker (change_at db subject) (Refers db change.name) (RefersToAt gone number) old new
      (λ name is.
      let here : slice_get gone number ≡ Some change = slice_get_read gone (length gone) number change refl within next in
      let some : ◌≡◌ {A = Option Change} (Some is.change) (Some change) = sym is.change_is ∙ here in
      let same : is.change ≡ change = cc in
      subst (λ (c : Change). Refers db c.name name) same is.refers)
      tells

  some_of : (o : Option Change) → is_some o ≡ true → (change : Change) × (o ≡ Some change)
  some_of None is = let never : false ≡ true = is in cc
  some_of (Some change) is = (change, refl)

  -- a row that goes is one of those
  going-at : (gone : List Change) → AreTold (removal_at db subject) gone → (name : RowName) → is_going db subject name ≡ true → (number : ℕ) × (change : Change) × (slice_get gone number ≡ Some change) × (change.name ≡ name)
  going-at gone are name goes =
      let (change, is) = some_of (told gone name) (ap is_some (are.each name) ∙ (removal_there db subject name ∙ goes)) in
      let ((number, within, at), tied) = found_contained (λ (c : Change). c.name) name_cmp name gone change is in
      (number, change, slice_get_read gone (length gone) number change refl within (sym at), one_name change.name name tied)

  pub refers-all : (gone : List Change) (count : ℕ) (old new : List Change) → AreTold (removal_at db subject) gone → length gone ≤ count
      → Tells (change_at db subject) (OfFirst (RefersToAt gone) count) old new → Tells (change_at db subject) (RefersToGone db subject) old new
  refers-all gone count old new are all tells =
      tells-weaker (change_at db subject) (OfFirst (RefersToAt gone) count) (RefersToGone db subject) old new
      (λ name is.
      let (number, change, at, same) = going-at gone are is.gone is.goes in
      record {
        number = number;
        first = omega (arith, place-lt gone number change at);
        is = record { change = change; change_is = at; refers = subst (λ n. Refers db n name) (sym same) is.refers };
      })
      tells
