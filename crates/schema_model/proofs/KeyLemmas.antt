-- The primary key of the table that a CREATE TABLE adds.
use Rattle.std.proofs.Common.{◌≡◌, zero, suc, List, [], ◌∷◌, length, Bool, true, false, cond, eqb, not, refl, ◌∙◌, inl, inr, arith}
use Rattle.std.specs.Prelude.{Some, slice_get, filter_map, bytes_eq, ◌⊎◌}
use Rattle.std.proofs.lemmas.Bool.{eqb-true, not-false}
use Rattle.own_model.specs.declared.create.Attr.{Attr}
use Rattle.own_model.specs.declared.create.ColumnDef.{ColumnDef}
use Rattle.own_model.specs.declared.create.CreateTable.{CreateTable}
use Rattle.own_model.specs.declared.create.Part.{Part}
use Rattle.own_model.specs.declared.create.Part.TheVariants as part
use Rattle.own_model.specs.declared.schema.Schema.{Schema}
use Rattle.schema_model.specs.Columns.{NameBytes, column_of, column_names, columns_of, first_name, is_key, is_named, key_columns, key_name, keys_after, keys_of}
use Rattle.schema_model.specs.NewTable.{new_table}
use Rattle.schema_model.specs.rules.MissingColumns.{missing_columns, stands_on}
use Rattle.schema_model.specs.rules.NotOnePrimaryKey.{not_one_primary_key}
use Rattle.schema_model.proofs.Admitted.{IsAdmitted}
use Rattle.schema_model.proofs.Found.{position-there, position-some}
use Rattle.schema_model.proofs.Names.{equal_name, same_name}
use Rattle.schema_model.proofs.Places.{IsIn, all-at, any-place, filter-none, in_filter_map, in_flat_map, slice_get-of_map}

one_step : (create : CreateTable) (b : Bool) → cond b [] (create.name ∷ []) ≡ [] → eqb (length (key_columns create)) 1 ≡ b → length (key_columns create) ≡ 1
one_step create true none is = eqb-true _ _ is
one_step create false none is = let never : ◌≡◌ {A = List NameBytes} (create.name ∷ []) [] = none in cc

-- PRIMARY KEY is given once
one_key : (create : CreateTable) → not_one_primary_key create ≡ [] → length (key_columns create) ≡ 1
unfolding not_one_primary_key
one_key create none = one_step create _ none refl

-- to the key
key_among : (names : List NameBytes) → length names ≡ 1 → IsIn names (first_name names)
key_among [] one = absurd (omega arith)
key_among (name ∷ names) one = (0, refl)

key_after_step : (column : NameBytes) (attr : Attr) (b : Bool) (name : NameBytes) → is_key attr ≡ b → IsIn (cond b (column ∷ []) []) name → column ≡ name
key_after_step column attr true name is (zero, at) = cc
key_after_step column attr true name is (suc place, at) = cc
key_after_step column attr false name is (place, at) = cc

-- PRIMARY KEY after a column's kind gives it to that column
key_after : (column name : NameBytes) (attrs : List Attr) → IsIn (keys_after column attrs) name → column ≡ name
key_after column name attrs among =
    let from = in_flat_map (λ attr. cond (is_key attr) (column ∷ []) []) attrs name among in
    key_after_step column from.0 _ name refl from.2

-- a column that a part gives it to is one of the part's own, or one that the part stands on
keys_of_step : (part : Part) (name : NameBytes) → IsIn (keys_of part) name → ((column : ColumnDef) × (column_of part ≡ Some column) × (column.name ≡ name)) ⊎ (stands_on part ≡ Some name)
keys_of_step (part.Column column) name among = inl (column, refl, key_after column.name name column.attrs among)
keys_of_step (part.Key column) name (zero, at) = inr (cc)
keys_of_step (part.Key column) name (suc place, at) = let never : ⊥ = cc in absurd never
keys_of_step (part.Unique column) name (place, at) = let never : ⊥ = cc in absurd never
keys_of_step (part.Foreign column refers) name (place, at) = let never : ⊥ = cc in absurd never
keys_of_step (part.Get column hidden) name (place, at) = let never : ⊥ = cc in absurd never
keys_of_step (part.Del column blanked) name (place, at) = let never : ⊥ = cc in absurd never
keys_of_step (part.DelRow column) name (place, at) = let never : ⊥ = cc in absurd never

-- the table has a column of this name
abbrev pub HasColumn : CreateTable → NameBytes → Type 0
HasColumn create name = (column : ColumnDef) × IsIn (columns_of create) column × (column.name ≡ name)

-- a name that columns have is that of one
pub column_named : (create : CreateTable) (name : NameBytes) → is_named (column_names create) name ≡ true → HasColumn create name
column_named create name named =
    let there = any-place (λ other. bytes_eq other name) (column_names create) named in
    let from = slice_get-of_map (λ column. column.name) (columns_of create) there.1.0 there.0 there.1.1 in
    (from.0, (there.1.0, from.1), from.2 ∙ same_name there.0 name there.2)

-- what a part stands on is a column of the table
pub column_stood_on : (create : CreateTable) (part : Part) (name : NameBytes) → missing_columns create ≡ [] → IsIn create.parts part → stands_on part ≡ Some name → HasColumn create name
unfolding missing_columns
column_stood_on create part name none among stands =
    let on = in_filter_map stands_on create.parts part name among stands in
    let all = filter-none (λ name. not (is_named (column_names create) name)) (filter_map stands_on create.parts) none in
    column_named create name (not-false _ (all-at (λ name. not (is_named (column_names create) name) ≡ false) (filter_map stands_on create.parts) all on.0 name on.1))

-- the primary key is a column of the table
key_column : (create : CreateTable) → not_one_primary_key create ≡ [] → missing_columns create ≡ [] → HasColumn create (key_name create)
key_column create one none =
    let among = key_among (key_columns create) (one_key create one) in
    let from = in_flat_map keys_of create.parts (key_name create) among in
    by from.0 from.1 (keys_of_step from.0 (key_name create) from.2)
  where
    by : (part : Part) → IsIn create.parts part → ((column : ColumnDef) × (column_of part ≡ Some column) × (column.name ≡ key_name create)) ⊎ (stands_on part ≡ Some (key_name create)) → HasColumn create (key_name create)
    by part at (inl own) = (own.0, in_filter_map column_of create.parts part own.0 at own.1, own.2)
    by part at (inr stands) = column_stood_on create part (key_name create) none at stands

-- and stands at the number that the new table has for it
pub key-at : (schema : Schema) (create : CreateTable) → IsAdmitted schema create
    → (column : ColumnDef) × (slice_get (columns_of create) (new_table schema create).key.0 ≡ Some column) × (column.name ≡ key_name create)
unfolding new_table
key-at schema create admitted =
    let key = key_column create admitted.one_primary_key admitted.there in
    let there = position-there (λ column. bytes_eq column.name (key_name create)) (columns_of create) key.1.0 key.0 key.1.1 (equal_name key.0.name (key_name create) key.2) in
    let at = position-some (λ column. bytes_eq column.name (key_name create)) (columns_of create) there.0 there.1 in
    (at.0, rw there.1 at.1, same_name at.0.name (key_name create) at.2)
