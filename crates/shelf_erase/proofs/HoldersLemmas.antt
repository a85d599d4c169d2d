-- Which rows hold a key in a column.
use Rattle.std.proofs.Common.{◌≡◌, ℕ, [], length, true, false, refl, ap, sym, ◌∙◌, subst}
use Rattle.std.specs.Prelude.{Contains, Option, Some, None, filter, is_some, slice_get, unwrap_or}
use Rattle.std.specs.Option.{option_and_then, option_map_or}
use Rattle.std.proofs.lemmas.Option.{get_or_from_slice_get, slice_get_read, unwrap_or-slice_get}
use Rattle.own_base.specs.declared.number.TableNo.{TableNo}
use Rattle.own_base.specs.declared.value.Key.{Key}
use Rattle.own_base.specs.declared.value.Value.{Value}
use Rattle.own_base.specs.declared.value.Value.TheVariants.{Null}
use Rattle.own_model.specs.declared.schema.TableDef.{TableDef}
use Rattle.own_model.specs.Db.{Db, IsOrdered, Row, key_of}
use Rattle.own_model.specs.Stored.{rows_at}
use Rattle.owner_model.specs.Joins.{row_of, value_at, value_of}
use Rattle.schema_model.proofs.Places.{place-lt}
use Rattle.subject_model.specs.Named.{is_there}
use Rattle.subject_model.specs.Paths.{is_key}
use Rattle.subject_model.proofs.JoinsLemmas.{key_of_value, value_of_key}
use Rattle.subject_model.proofs.Members.{contains_filter, contains_map, contains_none, contains_of_filter, contains_of_map}
use Rattle.owner_sets.proofs.Standing.{StandsAt, row_of-standing, standing_there}
use Rattle.link_model.specs.Holds.{holders, holders_at, holds}
use Rattle.shelf_erase.specs.Upper.{named}

-- what passes for a key is the key's value
is_value : (key : Key) (o : Option Value) → is_key key (unwrap_or o Null) ≡ true → o ≡ Some (value_of key)
is_value key None is = let never : false ≡ true = is in cc
is_value key (Some value) is = ap Some (value_of_key key value is)

module _ (column : ℕ) (key : Key) (row : Row) where
  -- a row holds a key where its value stands in the column
  holds_at : holds column key row ≡ true → slice_get row column ≡ Some (value_of key)
  unfolding holds
  holds_at is = is_value key (slice_get row column) (ap (is_key key) (unwrap_or-slice_get row column Null) ∙ is)

  at_holds : slice_get row column ≡ Some (value_of key) → holds column key row ≡ true
  unfolding holds
  at_holds at = ap (is_key key) (sym (unwrap_or-slice_get row column Null) ∙ ap (λ o. unwrap_or o Null) at) ∙ key_of_value key

module _ (db : Db) (ordered : IsOrdered db) (table : TableNo) (column : ℕ) (value own : Key) where
  cell_of_standing : (place : ℕ) (stands : StandsAt db (named table own) place) → value_at db (named table own) column ≡ slice_get stands.row column
  cell_of_standing place stands = ap (option_and_then (λ row. slice_get row column)) (row_of-standing db (named table own) place ordered stands)

  holder_row : (definition : TableDef) → slice_get db.schema.tables table.0 ≡ Some definition → Contains (holders definition (rows_at db.rows table.0) column value) own → value_at db (named table own) column ≡ Some (value_of value)
  holder_row definition table_is among =
      let (row, kept, is) = contains_of_map (key_of definition) (filter (holds column value) (rows_at db.rows table.0)) own among in
      let ((place, within, at), passes) = contains_of_filter (holds column value) (rows_at db.rows table.0) row kept in
      let stands : StandsAt db (named table own) place = record {
        definition = definition;
        row = row;
        table_is = table_is;
        row_is = slice_get_read (rows_at db.rows table.0) (length (rows_at db.rows table.0)) place row refl within (sym at);
        key_is = is;
      } in
      cell_of_standing place stands ∙ holds_at column value row passes

  -- a row whose key is lent holds the value
  pub holder_holds : Contains (holders_at db table.0 column value) own → value_at db (named table own) column ≡ Some (value_of value)
  unfolding holders_at
  holder_holds among = by (slice_get db.schema.tables table.0) refl among
    where
      by : (o : Option TableDef) → slice_get db.schema.tables table.0 ≡ o → Contains (option_map_or (λ definition. holders definition (rows_at db.rows table.0) column value) o []) own
          → value_at db (named table own) column ≡ Some (value_of value)
      by None is among = absurd (contains_none own among)
      by (Some definition) is among = holder_row definition is among

  some_there : (o : Option Row) → row_of db (named table own) ≡ o → option_and_then (λ row. slice_get row column) o ≡ Some (value_of value) → is_there db (named table own) ≡ true
  some_there None is at = let never : ◌≡◌ {A = Option Value} None (Some (value_of value)) = at in cc
  some_there (Some row) is at = ap is_some is

  -- and the key of a row that holds it is lent
  pub holds_holder : value_at db (named table own) column ≡ Some (value_of value) → Contains (holders_at db table.0 column value) own
  unfolding holders_at
  holds_holder at =
      let (place, stands) = standing_there db (named table own) (some_there (row_of db (named table own)) refl at) in
      let passes : holds column value stands.row ≡ true = at_holds column value stands.row (sym (cell_of_standing place stands) ∙ at) in
      let there : Contains (rows_at db.rows table.0) stands.row = (place, place-lt (rows_at db.rows table.0) place stands.row stands.row_is, get_or_from_slice_get (rows_at db.rows table.0) place stands.row stands.row stands.row_is) in
      let kept = contains_filter (holds column value) (rows_at db.rows table.0) stands.row there passes in
      rw (stands.table_is)
      (subst (Contains (holders stands.definition (rows_at db.rows table.0) column value)) stands.key_is (contains_map (key_of stands.definition) (filter (holds column value) (rows_at db.rows table.0)) stands.row kept))
