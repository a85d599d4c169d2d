-- Who holds a value, row by row.
use Rattle.std.proofs.Common.{◌≡◌, ℕ, List, [], ◌∷◌, map, true, false, inl, inr, refl, ap, sym, subst}
use Rattle.std.specs.Prelude.{Contains, Option, None, Some, filter, slice_get}
use Rattle.std.specs.List.Sorted.{IsStrictlySortedBy}
use Rattle.std.specs.Option.{option_map_or}
use Rattle.std.specs.declared.cmp.Ordering.TheVariants.{Less}
use Rattle.std.proofs.lemmas.Option.{slice_get_read}
use Rattle.own_base.specs.Key.{key_cmp}
use Rattle.own_base.specs.declared.value.Key.{Key}
use Rattle.own_base.specs.declared.value.Value.{Value}
use Rattle.own_base.specs.declared.value.Value.TheVariants.{Null, Int, Text, Sum}
use Rattle.own_model.specs.declared.schema.TableDef.{TableDef}
use Rattle.own_model.specs.Db.{Db, IsRising, Row, key_of}
use Rattle.own_model.specs.Stored.{rows_at}
use Rattle.query_model.specs.Footprints.{literal_key}
use Rattle.query_model.specs.Truth.{is_null}
use Rattle.subject_model.proofs.Members.{all_contained, contains_cases, contains_filter, contains_map, contains_of_filter, contains_of_map}
use Rattle.link_model.specs.Holds.{holders, holders_at, holds}
use Rattle.link_model.proofs.HolderLemmas.{holders_rise, itself}
use Rattle.change_check.specs.CellOrder.{cell_at, is_behind}
use Rattle.change_check.proofs.CellOrderLemmas.{before_not_behind, behind_itself, key_before}

-- a row that holds a value, at its place
pub record HoldsAt (table : TableDef) (rows : List Row) (column : ℕ) (value key : Key) : Type 0 where
  pub place : ℕ
  pub row : Row
  pub place_is : slice_get rows place ≡ Some row
  pub key_is : key_of table row ≡ key
  pub holds : holds column value row ≡ true

-- one of the holders is one
pub holder_row : (table : TableDef) (rows : List Row) (column : ℕ) (value key : Key) → Contains (holders table rows column value) key → HoldsAt table rows column value key
holder_row table rows column value key among =
    let (row, kept, key_is) = contains_of_map (key_of table) (filter (holds column value) rows) key among in
    let own = contains_of_filter (holds column value) rows row kept in
    let (place, within, at) = own.0 in
    record { place = place; row = row; place_is = slice_get_read rows _ place row refl within (sym at); key_is = key_is; holds = own.1 }

-- and it is one of them
pub row_holder : (table : TableDef) (rows : List Row) (column : ℕ) (value : Key) (row : Row) → Contains rows row → holds column value row ≡ true
    → Contains (holders table rows column value) (key_of table row)
row_holder table rows column value row among is =
    contains_map (key_of table) (filter (holds column value) rows) row (contains_filter (holds column value) rows row among is)

-- what is held is not NULL
pub key_some : (value : Value) (key : Key) → literal_key value ≡ Some key → is_null value ≡ false
key_some Null key is = let never : ◌≡◌ {A = Option Key} None (Some key) = is in cc
key_some (Int number) key is = refl
key_some (Text bytes) key is = refl
key_some (Sum number) key is = refl

-- the holders in a database are those in the table
pub holders_in : (db : Db) (number column : ℕ) (value : Key) (table : TableDef) → slice_get db.schema.tables number ≡ Some table
    → holders_at db number column value ≡ holders table (rows_at db.rows number) column value
unfolding holders_at
holders_in db number column value table is = rw is refl

-- the first of them comes before the others
pub first_not_behind : (number column : ℕ) (first key : Key) (keys : List Key) → IsStrictlySortedBy key_cmp (first ∷ keys) → Contains (first ∷ keys) key
    → is_behind (cell_at number column first) (cell_at number column key) ≡ false
unfolding IsStrictlySortedBy
first_not_behind number column first key keys rising among = elim (contains_cases first keys key among) [
  | inl same ↦ subst (λ k. is_behind (cell_at number column first) (cell_at number column k) ≡ false) same (behind_itself (cell_at number column first))
  | inr later ↦ before_not_behind (cell_at number column first) (cell_at number column key)
      (key_before number column column first key (all_contained (λ k. key_cmp first k ≡ Less) keys key rising.0 later))
]

map_same : (keys : List Key) → map itself keys ≡ keys
map_same [] = refl
map_same (key ∷ keys) = ap (λ rest. key ∷ rest) (map_same keys)

-- the keys of holders rise
pub sorted_holders : (table : TableDef) (rows : List Row) (column : ℕ) (value : Key) → IsRising table rows → IsStrictlySortedBy key_cmp (holders table rows column value)
sorted_holders table rows column value rising = subst (IsStrictlySortedBy key_cmp) (map_same (holders table rows column value)) (holders_rise table column value rows rising)

-- a row that is there and holds a value
pub some_holding : (column : ℕ) (value : Key) (o : Option Row) → option_map_or (holds column value) o false ≡ true → (row : Row) × (o ≡ Some row) × (holds column value row ≡ true)
some_holding column value None is = let never : false ≡ true = is in cc
some_holding column value (Some row) is = (row, refl, is)
