-- The columns of the table that a CREATE TABLE adds.
use Rattle.std.proofs.Common.{◌≡◌, ◌≢◌, ℕ, List, [], ◌∷◌, map, true, false, not, refl, ap, sym, ◌∙◌}
use Rattle.std.specs.Prelude.{Option, Some, None, slice_get, filter, find, bytes_eq}
use Rattle.std.specs.Option.{option_map, option_map_or}
use Rattle.std.proofs.lemmas.Bool.{not-false}
use Rattle.own_base.specs.declared.number.TableNo.{TableNo}
use Rattle.own_model.specs.declared.create.ColumnDef.{ColumnDef}
use Rattle.own_model.specs.declared.create.CreateTable.{CreateTable}
use Rattle.own_model.specs.declared.schema.Column.{Column}
use Rattle.own_model.specs.declared.schema.Kind.{Kind}
use Rattle.own_model.specs.declared.schema.Kind.TheVariants.{Int, Text, Sum}
use Rattle.own_model.specs.declared.schema.RefKind.{RefKind}
use Rattle.own_model.specs.declared.schema.Schema.{Schema}
use Rattle.own_model.specs.declared.schema.TableDef.{TableDef}
use Rattle.schema_model.specs.Columns.{NameBytes, column_names, columns_of, key_name}
use Rattle.schema_model.specs.Kinds.{is_same_kind}
use Rattle.schema_model.specs.NewTable.{link_of, new_column, new_table, target_of}
use Rattle.schema_model.specs.OwnerSchema.{ColumnsDiffer, ColumnsRefer, RefersToKey}
use Rattle.schema_model.specs.References.{Reference, reference_on, references_of}
use Rattle.schema_model.specs.WithTable.{with_table}
use Rattle.schema_model.specs.rules.PastTheKey.{names_the_key, past_the_key}
use Rattle.schema_model.specs.rules.PrimaryKeysThatRefer.{primary_keys_that_refer}
use Rattle.schema_model.specs.rules.RepeatedColumns.{repeated_columns}
use Rattle.schema_model.specs.rules.UnequalKinds.{is_of_its_kind, unequal_kinds}
use Rattle.schema_model.proofs.Admitted.{IsAdmitted}
use Rattle.schema_model.proofs.Found.{find-only, find-some}
use Rattle.schema_model.proofs.KeyLemmas.{key-at}
use Rattle.schema_model.proofs.Names.{distinct-unrepeated, equal_name, one_place, same_name}
use Rattle.schema_model.proofs.Places.{IsIn, all-at, filter-none, map-none, same-place, slice_get-in_map, slice_get-of_map}
use Rattle.schema_model.proofs.Targets.{target-at, target-there}

-- what a column of the new table that refers is made of: the column as it is written, and its reference
pub record IsReferring (schema : Schema) (create : CreateTable) (number : ℕ) (column : Column) (link : RefKind × TableNo) : Type 0 where
  pub written : ColumnDef
  pub written_is : slice_get (columns_of create) number ≡ Some written
  pub name : column.name ≡ written.name
  pub kind : column.kind ≡ written.kind
  pub reference : Reference
  pub found : reference_on create column.name ≡ Some reference
  pub among : IsIn (references_of create) reference
  pub own : reference.column ≡ column.name
  pub link_is : link ≡ link_of schema reference

map_some : {T U : Type 0} (f : T → U) (o : Option T) (y : U) → option_map f o ≡ Some y → (x : T) × (o ≡ Some x) × (f x ≡ y)
map_some f None y is = let never : ⊥ = cc in absurd never
map_some f (Some x) y is = (x, refl, cc)

-- each column that refers is made so
pub referring : (schema : Schema) (create : CreateTable) (number : ℕ) (column : Column) (link : RefKind × TableNo)
    → slice_get (new_table schema create).columns number ≡ Some column → column.refers ≡ Some link → IsReferring schema create number column link
unfolding new_table new_column
referring schema create number column link is refers =
    let from = slice_get-of_map (new_column schema create) (columns_of create) number column is in
    let name : from.0.name ≡ column.name = ap (λ column. column.name) from.2 in
    let by = map_some (link_of schema) (reference_on create from.0.name) link (ap (λ column. column.refers) from.2 ∙ refers) in
    let some = find-some (λ reference. bytes_eq reference.column from.0.name) (references_of create) by.0 by.1 in
    record {
      written = from.0;
      written_is = from.1;
      name = sym name;
      kind = ap (λ column. column.kind) (sym from.2);
      reference = by.0;
      found = ap (reference_on create) (sym name) ∙ by.1;
      among = some.0;
      own = same_name by.0.column from.0.name some.1 ∙ name;
      link_is = sym by.2;
    }

-- the columns have the names that they are written with
names_of_new : (schema : Schema) (create : CreateTable) (columns : List ColumnDef)
    → map (λ column. column.name) (map (new_column schema create) columns) ≡ map (λ column. column.name) columns
unfolding new_column
names_of_new schema create [] = refl
names_of_new schema create (column ∷ columns) = ap (λ rest. column.name ∷ rest) (names_of_new schema create columns)

-- no two of the columns have one name
pub columns_differ : (schema : Schema) (create : CreateTable) → repeated_columns create ≡ [] → ColumnsDiffer (new_table schema create)
unfolding new_table repeated_columns
columns_differ schema create none = rw (names_of_new schema create (columns_of create)) (distinct-unrepeated (column_names create) none)

-- so the one that is written with a name is found by it
found_by_name : (create : CreateTable) (number : ℕ) (column : ColumnDef) (name : NameBytes) → repeated_columns create ≡ []
    → slice_get (columns_of create) number ≡ Some column → column.name ≡ name → find (λ column. bytes_eq column.name name) (columns_of create) ≡ Some column
unfolding repeated_columns
found_by_name create number column name none is equal =
    find-only (λ column. bytes_eq column.name name) (columns_of create) number column is (equal_name column.name name equal)
    (λ other second also passes. one_place (column_names create) (distinct-unrepeated (column_names create) none) other number name
    (slice_get-in_map (λ column. column.name) (columns_of create) other second also ∙ ap (λ n. Some n) (same_name second.name name passes))
    (slice_get-in_map (λ column. column.name) (columns_of create) number column is ∙ ap (λ n. Some n) equal))

-- a column that refers is no primary key
pub refers_no_key : (schema : Schema) (create : CreateTable) (number : ℕ) (column : Column) (link : RefKind × TableNo) → IsAdmitted schema create
    → IsReferring schema create number column link → number ≢ (new_table schema create).key.0
unfolding primary_keys_that_refer
refers_no_key schema create number column link admitted by is =
    let key = key-at schema create admitted in
    let written : slice_get (columns_of create) (new_table schema create).key.0 ≡ Some by.written = rw is at by.written_is in
    let same : by.written ≡ key.0 = same-place (columns_of create) _ by.written key.0 written key.1 in
    let names = map (λ reference. reference.column) (references_of create) in
    let each = filter-none (λ column. bytes_eq column (key_name create)) names admitted.no_key in
    let differs : bytes_eq by.reference.column (key_name create) ≡ false =
    all-at (λ column. bytes_eq column (key_name create) ≡ false) names each by.among.0 by.reference.column
    (slice_get-in_map (λ reference. reference.column) (references_of create) by.among.0 by.reference by.among.1) in
    let equal : bytes_eq by.reference.column (key_name create) ≡ true =
    equal_name by.reference.column (key_name create) (by.own ∙ by.name ∙ ap (λ column. column.name) same ∙ key.2) in
    cc

key_step : (name : NameBytes) (o : Option Column) → option_map_or (λ column. bytes_eq column.name name) o false ≡ true → (key : Column) × (o ≡ Some key)
key_step name None there = let never : ⊥ = cc in absurd never
key_step name (Some key) there = (key, refl)

-- the table that a reference names has its primary key
target_key : (schema : Schema) (create : CreateTable) (reference : Reference) (table : TableDef) → IsAdmitted schema create → IsIn (references_of create) reference
    → target_of schema create reference.refers ≡ Some table → (key : Column) × (slice_get table.columns table.key.0 ≡ Some key)
unfolding past_the_key
target_key schema create reference table admitted among is =
    let kept = map-none (λ reference. reference.refers.column) (filter (λ reference. not (names_the_key schema create reference)) (references_of create)) admitted.keys in
    let each = filter-none (λ reference. not (names_the_key schema create reference)) (references_of create) kept in
    let names : names_the_key schema create reference ≡ true =
    not-false _ (all-at (λ reference. not (names_the_key schema create reference) ≡ false) (references_of create) each among.0 reference among.1) in
    key_step reference.refers.column (slice_get table.columns table.key.0) (rw is at names)

same_kind : (one other : Kind) → is_same_kind one other ≡ true → other ≡ one
same_kind Int Int same = refl
same_kind Int Text same = cc
same_kind Int Sum same = cc
same_kind Text Int same = cc
same_kind Text Text same = refl
same_kind Text Sum same = cc
same_kind Sum Int same = cc
same_kind Sum Text same = cc
same_kind Sum Sum same = refl

-- and a column that refers to it is of its kind
kind_of_key : (schema : Schema) (create : CreateTable) (number : ℕ) (column : Column) (link : RefKind × TableNo) (by : IsReferring schema create number column link)
    → IsAdmitted schema create → (table : TableDef) (key : Column) → target_of schema create by.reference.refers ≡ Some table
    → slice_get table.columns table.key.0 ≡ Some key → column.kind ≡ key.kind
unfolding unequal_kinds
kind_of_key schema create number column link by admitted table key is key_is =
    let kept = map-none (λ reference. reference.column) (filter (λ reference. not (is_of_its_kind schema create reference)) (references_of create)) admitted.kinds in
    let each = filter-none (λ reference. not (is_of_its_kind schema create reference)) (references_of create) kept in
    let equal : is_of_its_kind schema create by.reference ≡ true =
    not-false _ (all-at (λ reference. not (is_of_its_kind schema create reference) ≡ false) (references_of create) each by.among.0 by.reference by.among.1) in
    let found = found_by_name create number by.written by.reference.column admitted.differ by.written_is (sym by.name ∙ sym by.own) in
    let own : is_same_kind key.kind by.written.kind ≡ true = rw (is, found, key_is) at equal in
    by.kind ∙ same_kind key.kind by.written.kind own

-- a column of the new table that refers does so to the key of its table
pub refers_to_key : (schema : Schema) (create : CreateTable) (number : ℕ) (column : Column) (link : RefKind × TableNo) → IsAdmitted schema create
    → IsReferring schema create number column link → RefersToKey (with_table schema create) column link
unfolding with_table
refers_to_key schema create number column link admitted by =
    let there = target-there schema create by.reference admitted.named by.among in
    let key = target_key schema create by.reference there.0 admitted by.among there.1 in
    record {
      table = there.0;
      table_is = rw by.link_is (target-at schema create by.reference.refers there.0 there.1);
      key = key.0;
      key_is = key.1;
      kind = kind_of_key schema create number column link by admitted there.0 key.0 there.1 key.1;
    }

-- all of the above for each of its columns
pub new_columns_refer : (schema : Schema) (create : CreateTable) → IsAdmitted schema create → ColumnsRefer (with_table schema create) (new_table schema create)
new_columns_refer schema create admitted number column link is refers =
    let by = referring schema create number column link is refers in
    (refers_no_key schema create number column link admitted by, refers_to_key schema create number column link admitted by)
