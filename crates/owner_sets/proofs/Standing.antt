-- Rows at places of tables, and their names.
use Rattle.std.proofs.Common.{◌≡◌, ℕ, Bool, true, false, ◌&&◌, refl, ap, sym, ◌∙◌, subst}
use Rattle.std.specs.Prelude.{Option, Some, None, find, is_some, position, slice_get}
use Rattle.std.specs.Option.{option_and_then}
use Rattle.own_base.specs.Key.{key_cmp}
use Rattle.own_base.specs.declared.number.TableNo.{TableNo}
use Rattle.own_base.specs.declared.row_name.RowName.{RowName}
use Rattle.own_base.specs.declared.value.Key.{Key}
use Rattle.own_base.specs.declared.value.Key.TheVariants as keyed
use Rattle.own_base.specs.declared.value.Value.{Value}
use Rattle.own_base.specs.declared.value.Value.TheVariants.{Null, Int, Text, Sum}
use Rattle.own_model.specs.declared.schema.TableDef.{TableDef}
use Rattle.own_model.specs.Db.{Db, IsOrdered, IsRising, Row, key_of}
use Rattle.own_model.specs.Stored.{has_key, is_equal, row_named, rows_at}
use Rattle.owner_model.specs.Joins.{row_of, value_at, value_of}
use Rattle.query_model.specs.Footprints.{literal_key}
use Rattle.schema_model.specs.Tables.{is_subject}
use Rattle.schema_model.proofs.Found.{find-only, find-some, position-some}
use Rattle.subject_model.specs.Named.{is_there, name_of}
use Rattle.subject_model.specs.Paths.{is_subject_row}
use Rattle.subject_model.proofs.NamedLemmas.{key_is, one_key}
use Rattle.owner_sets.specs.Links.{place_named, place_of}
use Rattle.owner_sets.proofs.Searched.{one_place, place_of-definition, position_of_key, rising_at}

-- the row of this name stands at this place of its table
pub record StandsAt (db : Db) (name : RowName) (place : ℕ) : Type 0 where
  pub definition : TableDef
  pub row : Row
  pub table_is : slice_get db.schema.tables name.table.0 ≡ Some definition
  pub row_is : slice_get (rows_at db.rows name.table.0) place ≡ Some row
  pub key_is : key_of definition row ≡ name.key

module _ (db : Db) (name : RowName) (place : ℕ) where
  -- so it is found by its name
  pub row_of-standing : IsOrdered db → (stands : StandsAt db name place) → row_of db name ≡ Some stands.row
  unfolding row_named
  row_of-standing ordered stands =
      let rising : IsRising stands.definition (rows_at db.rows name.table.0) = rising_at db.schema.tables db.rows name.table.0 stands.definition ordered.rising stands.table_is in
      let passes : has_key stands.definition name.key stands.row ≡ true =
      subst (λ key. is_equal (key_cmp (key_of stands.definition stands.row) key) ≡ true) stands.key_is (key_is (key_of stands.definition stands.row)) in
      rw (stands.table_is)
      (find-only (has_key stands.definition name.key) (rows_at db.rows name.table.0) place stands.row stands.row_is passes
      (λ other row at also.
      let key : key_of stands.definition row ≡ name.key = one_key (key_of stands.definition row) name.key also in
      one_place stands.definition (rows_at db.rows name.table.0) other place row stands.row rising at stands.row_is (key ∙ sym stands.key_is)))

  -- and is there
  pub there-standing : IsOrdered db → StandsAt db name place → is_there db name ≡ true
  there-standing ordered stands = ap is_some (row_of-standing ordered stands)

  -- its place is found by its key
  pub place_of-standing : IsOrdered db → StandsAt db name place → place_of db.schema db.rows name.table.0 name.key ≡ Some place
  place_of-standing ordered stands =
      let rising : IsRising stands.definition (rows_at db.rows name.table.0) = rising_at db.schema.tables db.rows name.table.0 stands.definition ordered.rising stands.table_is in
      place_of-definition db.schema db.rows name.table.0 stands.definition name.key stands.table_is
      ∙ position_of_key stands.definition (rows_at db.rows name.table.0) place stands.row name.key rising stands.row_is stands.key_is

  -- its name is made of its table and its key
  pub name_of-standing : (stands : StandsAt db name place) → name_of name.table.0 stands.definition stands.row ≡ name
  name_of-standing stands = ap (λ (key : Key). record { table = name.table; key = key }) stands.key_is

  -- it is a subject row exactly where its table is one of subjects
  pub subject_row-standing : IsOrdered db → StandsAt db name place → is_subject_row db name ≡ is_subject db.schema name.table.0
  unfolding is_subject_row
  subject_row-standing ordered stands = rw (there-standing ordered stands) (and_true (is_subject db.schema name.table.0))
    where
      and_true : (b : Bool) → (b && true) ≡ b
      and_true true = refl
      and_true false = refl

-- a row that a table's definition and a place give has a name
abbrev pub standing_at : (db : Db) (table : TableNo) (place : ℕ) (definition : TableDef) (row : Row) → slice_get db.schema.tables table.0 ≡ Some definition → slice_get (rows_at db.rows table.0) place ≡ Some row
    → StandsAt db (record { table = table; key = key_of definition row }) place
standing_at db table place definition row table_is row_is = record { definition = definition; row = row; table_is = table_is; row_is = row_is; key_is = refl }

module _ (db : Db) (name : RowName) where
  standing_in : (definition : TableDef) (row : Row) → slice_get db.schema.tables name.table.0 ≡ Some definition → find (has_key definition name.key) (rows_at db.rows name.table.0) ≡ Some row
      → (place : ℕ) × StandsAt db name place
  standing_in definition row table_is found =
      let is = find-some (has_key definition name.key) (rows_at db.rows name.table.0) row found in
      (is.0.0, record { definition = definition; row = row; table_is = table_is; row_is = is.0.1; key_is = one_key (key_of definition row) name.key is.1 })

  standing_of : (o : Option TableDef) → slice_get db.schema.tables name.table.0 ≡ o → (row : Row)
      → option_and_then (λ definition. find (has_key definition name.key) (rows_at db.rows name.table.0)) o ≡ Some row → (place : ℕ) × StandsAt db name place
  standing_of None table_is row found = let never : ◌≡◌ {A = Option Row} None (Some row) = found in cc
  standing_of (Some definition) table_is row found = standing_in definition row table_is found

  standing_row : (o : Option Row) → row_of db name ≡ o → is_some o ≡ true → (place : ℕ) × StandsAt db name place
  unfolding row_named
  standing_row None found there = let never : false ≡ true = there in cc
  standing_row (Some row) found there = standing_of (slice_get db.schema.tables name.table.0) refl row found

  -- a row that is there stands at a place
  pub standing_there : is_there db name ≡ true → (place : ℕ) × StandsAt db name place
  standing_there there = standing_row (row_of db name) refl there

-- the key of a value is that value's
key_of_literal : (value : Value) (key : Key) → literal_key value ≡ Some key → value ≡ value_of key
key_of_literal Null key is = let never : ◌≡◌ {A = Option Key} None (Some key) = is in cc
key_of_literal (Int number) key is = let same : ◌≡◌ {A = Option Key} (Some (keyed.Int number)) (Some key) = is in let one : keyed.Int number ≡ key = cc in ap value_of one
key_of_literal (Text bytes) key is = let same : ◌≡◌ {A = Option Key} (Some (keyed.Text bytes)) (Some key) = is in let one : keyed.Text bytes ≡ key = cc in ap value_of one
key_of_literal (Sum number) key is = let never : ◌≡◌ {A = Option Key} None (Some key) = is in cc

literal_of_key : (key : Key) → literal_key (value_of key) ≡ Some key
literal_of_key (keyed.Int number) = refl
literal_of_key (keyed.Text bytes) = refl

-- what stands in a column of the row at a place of a table
abbrev pub standing_value : Db → ℕ → ℕ → ℕ → Option Value
standing_value db table column place = option_and_then (λ row. slice_get row column) (slice_get (rows_at db.rows table) place)

-- A row holds another one's key: both stand at their places, and so the other's is the one that is named.
pub record NamesRow (db : Db) (column : ℕ) (holder other : RowName) (at named : ℕ) : Type 0 where
  pub holder_stands : StandsAt db holder at
  pub other_stands : StandsAt db other named
  pub names : value_at db holder column ≡ Some (value_of other.key)

pub place_named-names : (db : Db) (column : ℕ) (holder other : RowName) (at named : ℕ) → IsOrdered db → NamesRow db column holder other at named
    → place_named db.schema db.rows other.table.0 (standing_value db holder.table.0 column at) ≡ Some named
place_named-names db column holder other at named ordered is =
    let held : slice_get is.holder_stands.row column ≡ Some (value_of other.key) =
    sym (ap (option_and_then (λ row. slice_get row column)) (row_of-standing db holder at ordered is.holder_stands)) ∙ is.names in
    let value : standing_value db holder.table.0 column at ≡ Some (value_of other.key) = rw (is.holder_stands.row_is) held in
    rw (value, literal_of_key other.key) (place_of-standing db other named ordered is.other_stands)

-- Where a place is named, a row at it is.
pub record Named (db : Db) (column : ℕ) (holder_table other_table : TableNo) (at named : ℕ) : Type 0 where
  pub holder : RowName
  pub other : RowName
  pub of_holder : holder.table ≡ holder_table
  pub of_other : other.table ≡ other_table
  pub is : NamesRow db column holder other at named

module _ (db : Db) (column : ℕ) (holder_table other_table : TableNo) (at named : ℕ) (definition : TableDef) where
  named_by_key : IsOrdered db → (row : Row) (key : Key) → slice_get db.schema.tables holder_table.0 ≡ Some definition → slice_get (rows_at db.rows holder_table.0) at ≡ Some row
      → slice_get row column ≡ Some (value_of key) → (o : Option TableDef) → slice_get db.schema.tables other_table.0 ≡ o
      → option_and_then (λ other. position (has_key other key) (rows_at db.rows other_table.0)) o ≡ Some named → Named db column holder_table other_table at named
  named_by_key ordered row key table_is row_is value_is None other_is found = let never : ◌≡◌ {A = Option ℕ} None (Some named) = found in cc
  named_by_key ordered row key table_is row_is value_is (Some other) other_is found =
      let holder : RowName = record { table = holder_table; key = key_of definition row } in
      let stands : StandsAt db holder at = standing_at db holder_table at definition row table_is row_is in
      let is = position-some (has_key other key) (rows_at db.rows other_table.0) named found in
      record {
        holder = holder;
        other = record { table = other_table; key = key };
        of_holder = refl;
        of_other = refl;
        is = record {
          holder_stands = stands;
          other_stands = record { definition = other; row = is.0; table_is = other_is; row_is = is.1; key_is = one_key (key_of other is.0) key is.2 };
          names = ap (option_and_then (λ row. slice_get row column)) (row_of-standing db holder at ordered stands) ∙ value_is;
        };
      }

  named_by_value : IsOrdered db → (row : Row) (value : Value) → slice_get db.schema.tables holder_table.0 ≡ Some definition → slice_get (rows_at db.rows holder_table.0) at ≡ Some row
      → slice_get row column ≡ Some value → (o : Option Key) → literal_key value ≡ o
      → option_and_then (place_of db.schema db.rows other_table.0) o ≡ Some named → Named db column holder_table other_table at named
  unfolding place_of
  named_by_value ordered row value table_is row_is value_is None key_is found = let never : ◌≡◌ {A = Option ℕ} None (Some named) = found in cc
  named_by_value ordered row value table_is row_is value_is (Some key) key_is found =
      named_by_key ordered row key table_is row_is (value_is ∙ ap Some (key_of_literal value key key_is)) (slice_get db.schema.tables other_table.0) refl found

  named_by_cell : IsOrdered db → (row : Row) → slice_get db.schema.tables holder_table.0 ≡ Some definition → slice_get (rows_at db.rows holder_table.0) at ≡ Some row
      → (o : Option Value) → slice_get row column ≡ o → place_named db.schema db.rows other_table.0 o ≡ Some named → Named db column holder_table other_table at named
  named_by_cell ordered row table_is row_is None value_is found = let never : ◌≡◌ {A = Option ℕ} None (Some named) = found in cc
  named_by_cell ordered row table_is row_is (Some value) value_is found = named_by_value ordered row value table_is row_is value_is (literal_key value) refl found

  named_by_row : IsOrdered db → slice_get db.schema.tables holder_table.0 ≡ Some definition → (o : Option Row) → slice_get (rows_at db.rows holder_table.0) at ≡ o
      → place_named db.schema db.rows other_table.0 (option_and_then (λ row. slice_get row column) o) ≡ Some named → Named db column holder_table other_table at named
  named_by_row ordered table_is None row_is found = let never : ◌≡◌ {A = Option ℕ} None (Some named) = found in cc
  named_by_row ordered table_is (Some row) row_is found = named_by_cell ordered row table_is row_is (slice_get row column) refl found

  pub place_named-row : IsOrdered db → slice_get db.schema.tables holder_table.0 ≡ Some definition
      → place_named db.schema db.rows other_table.0 (standing_value db holder_table.0 column at) ≡ Some named → Named db column holder_table other_table at named
  place_named-row ordered table_is found = named_by_row ordered table_is (slice_get (rows_at db.rows holder_table.0) at) refl found
