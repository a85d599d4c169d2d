-- A database without a fault is consistent.
use Rattle.std.proofs.Common.{◌≡◌, ℕ, zero, suc, ◌≤◌, List, [], ◌∷◌, Bool, true, false, cond, not, refl, ap, sym, ◌∙◌, subst, eq-eqb}
use Rattle.std.specs.Prelude.{◌≢◌, ◌&&◌, ◌==◌, Contains, IsSome, IsTrue, Option, None, Some, find, nat_lt, slice_get, if◌then◌else◌}
use Rattle.std.specs.List.{AllByRecursion}
use Rattle.std.specs.Option.{option_and_then}
use Rattle.std.proofs.lemmas.Bool.{and_from, ltb-false, not-false, not_from_false}
use Rattle.own_base.specs.declared.number.TableNo.{TableNo}
use Rattle.own_base.specs.declared.row_name.RowName.{RowName}
use Rattle.own_base.specs.declared.value.Key.{Key}
use Rattle.own_base.specs.declared.value.Key.TheVariants as key
use Rattle.own_base.specs.declared.value.Value.{Value}
use Rattle.own_base.specs.declared.value.Value.TheVariants.{Null, Int, Text, Sum}
use Rattle.own_model.specs.declared.limit.TheConstants.{STORE_ROWS, STORE_WEIGHT}
use Rattle.own_model.specs.declared.refusal.Refusal.TheVariants.{Owner, Reference, Unique}
use Rattle.own_model.specs.declared.schema.Column.{Column}
use Rattle.own_model.specs.declared.schema.Edge.{Edge}
use Rattle.own_model.specs.declared.schema.RefKind.{RefKind}
use Rattle.own_model.specs.declared.schema.TableDef.{TableDef}
use Rattle.own_model.specs.Db.{Db, Row, key_of}
use Rattle.own_model.specs.Stored.{has_key, row_named, rows_at}
use Rattle.owner_model.specs.Joins.{row_of}
use Rattle.query_model.specs.Footprints.{literal_key}
use Rattle.query_model.specs.Truth.{cell, is_null}
use Rattle.schema_model.specs.Tables.{is_private}
use Rattle.schema_model.proofs.Places.{append-none}
use Rattle.subject_model.specs.Owners.{has_owner}
use Rattle.subject_model.proofs.Members.{all_contained, any_contained, contains_here, contains_later, contains_none}
use Rattle.subject_model.proofs.NamedLemmas.{one_key}
use Rattle.subject_model.proofs.OwnerLemmas.{owner_from}
use Rattle.state_model.specs.Consistent.{HoldsIn, IsConsistent, IsOwned, NamesRow}
use Rattle.state_model.specs.Fault.{breaks_reference, breaks_unique, limit_faults, names_a_row, owner_faults, owner_rule, reference_faults, reference_rule, unique_faults, unique_rule}
use Rattle.state_model.specs.Rows.{AreOfKinds, AreRowsOf, IsOfKind, IsRowOf}
use Rattle.state_model.specs.Same.{is_same_value}
use Rattle.state_model.specs.Sound.{Sound}
use Rattle.state_model.specs.Weight.{row_count, weight}
use Rattle.state_model.proofs.FaultLemmas.{columns_pass, each_row, column_value}
use Rattle.state_model.proofs.Faultless.{IsFaultless, faultless-from}
use Rattle.state_model.proofs.SameLemmas.{value_same}
use Rattle.query_model.proofs.NoFaults.{none-if}

-- where the row of a name stands
pub record StandsAt (db : Db) (name : RowName) (table : TableDef) (row : Row) : Type 0 where
  pub rows : List Row
  pub table_is : slice_get db.schema.tables name.table.0 ≡ Some table
  pub rows_are : slice_get db.rows name.table.0 ≡ Some rows
  pub among : Contains rows row
  pub key_is : key_of table row ≡ name.key

found_row : (table : TableDef) (key : Key) (rows : List Row) (row : Row) → find (has_key table key) rows ≡ Some row → Contains rows row × (key_of table row ≡ key)
found_row table key [] row is = let never : ◌≡◌ {A = Option Row} None (Some row) = is in cc
found_row table key (first ∷ rows) row is = by (has_key table key first) refl (found_row table key rows row) is
  where
    by : (b : Bool) → has_key table key first ≡ b → (find (has_key table key) rows ≡ Some row → Contains rows row × (key_of table row ≡ key))
        → cond b (Some first) (find (has_key table key) rows) ≡ Some row → Contains (first ∷ rows) row × (key_of table row ≡ key)
    by true has more here =
        let same : first ≡ row = cc in
        (subst (Contains (first ∷ rows)) same (contains_here first rows), subst (λ r. key_of table r ≡ key) same (one_key _ _ has))
    by false fails more later = let rest = more later in (contains_later first rows row rest.0, rest.1)

listed : (rows : List (List Row)) (number : ℕ) (row : Row) → Contains (rows_at rows number) row → slice_get rows number ≡ Some (rows_at rows number)
listed [] number row among = absurd (contains_none row among)
listed (first ∷ rows) zero row among = refl
listed (first ∷ rows) (suc number) row among = listed rows number row among

stands_case : (db : Db) (name : RowName) (row : Row) (found : Option TableDef) → slice_get db.schema.tables name.table.0 ≡ found
    → option_and_then (λ table. find (has_key table name.key) (rows_at db.rows name.table.0)) found ≡ Some row → (table : TableDef) × StandsAt db name table row
stands_case db name row None none is = let never : ◌≡◌ {A = Option Row} None (Some row) = is in cc
stands_case db name row (Some table) some is =
    let own = found_row table name.key (rows_at db.rows name.table.0) row is in
    (table, record { rows = rows_at db.rows name.table.0; table_is = some; rows_are = listed db.rows name.table.0 row own.0; among = own.0; key_is = own.1 })

-- a row that is there stands among the rows of its table
pub stands : (db : Db) (name : RowName) (row : Row) → row_of db name ≡ Some row → (table : TableDef) × StandsAt db name table row
unfolding row_named
stands db name row is = stands_case db name row _ refl is

some_row : (found : Option Row) → IsSome found → (row : Row) × (found ≡ Some row)
some_row None some = let never : false ≡ true = some in cc
some_row (Some row) some = (row, refl)

-- what is held in a column
pub record HeldRow (db : Db) (name : RowName) (number : ℕ) (column : Column) (value : Value) : Type 0 where
  pub table : TableDef
  pub row : Row
  pub column_is : slice_get table.columns number ≡ Some column
  pub value_is : slice_get row number ≡ Some value
  pub stand : StandsAt db name table row

held_case : (db : Db) (name : RowName) (number : ℕ) (column : Column) (value : Value) (table : TableDef) → slice_get db.schema.tables name.table.0 ≡ Some table
    → slice_get table.columns number ≡ Some column → (found : Option Row) → row_of db name ≡ found → option_and_then (λ row. slice_get row number) found ≡ Some value → HeldRow db name number column value
held_case db name number column value table is at None none holds = let never : ◌≡◌ {A = Option Value} None (Some value) = holds in cc
held_case db name number column value table is at (Some row) some holds =
    let (other, stand) = stands db name row some in
    let both : ◌≡◌ {A = Option TableDef} (Some other) (Some table) = sym stand.table_is ∙ is in
    let same : other ≡ table = cc in
    record { table = table; row = row; column_is = at; value_is = holds; stand = subst (λ t. StandsAt db name t row) same stand }

held_row : (db : Db) (name : RowName) (number : ℕ) (column : Column) (value : Value) → HoldsIn db name number column value → HeldRow db name number column value
held_row db name number column value holds = held_case db name number column value holds.table holds.table_is holds.column_is _ refl holds.holds

-- the cell of a place that a row has
pub cell_is : (row : Row) (number : ℕ) (value : Value) → slice_get row number ≡ Some value → cell row number ≡ value
cell_is [] number value is = let never : ◌≡◌ {A = Option Value} None (Some value) = is in cc
cell_is (first ∷ row) zero value is = cc
cell_is (first ∷ row) (suc number) value is = cell_is row number value is

is_null-not : (value : Value) → value ≢ Null → is_null value ≡ false
is_null-not Null some = absurd (some refl)
is_null-not (Int number) some = refl
is_null-not (Text bytes) some = refl
is_null-not (Sum number) some = refl

-- no row that may stand in a table holds a sum
no_sum : (columns : List Column) (row : Row) (number : ℕ) (value : Value) → AreOfKinds columns row → slice_get row number ≡ Some value → (column : Column) × IsOfKind column.kind value
no_sum [] [] number value are is = let never : ◌≡◌ {A = Option Value} None (Some value) = is in cc
no_sum [] (first ∷ row) number value are is = absurd are
no_sum (column ∷ columns) [] number value are is = absurd are
no_sum (column ∷ columns) (first ∷ row) zero value are is = let same : first ≡ value = cc in (column, subst (IsOfKind column.kind) same are.0)
no_sum (column ∷ columns) (first ∷ row) (suc number) value are is = no_sum columns row number value are.1 is

all_at : (P : Row → Type 0) (rows : List Row) (row : Row) → AllByRecursion P rows → Contains rows row → P row
all_at P rows row all among = all_contained P rows row all among

rows_may : (tables : List TableDef) (rows : List (List Row)) (number : ℕ) (table : TableDef) (own : List Row) → AreRowsOf tables rows → slice_get tables number ≡ Some table
    → slice_get rows number ≡ Some own → AllByRecursion (IsRowOf table) own
rows_may [] [] number table own are is there = let never : ◌≡◌ {A = Option TableDef} None (Some table) = is in cc
rows_may [] (first ∷ rows) number table own are is there = absurd are
rows_may (first ∷ tables) [] number table own are is there = absurd are
rows_may (first ∷ tables) (one ∷ rows) zero table own are is there =
    let same : first ≡ table = cc in
    let list : one ≡ own = cc in
    subst (λ t. AllByRecursion (IsRowOf t) own) same (subst (AllByRecursion (IsRowOf first)) list are.0)
rows_may (first ∷ tables) (one ∷ rows) (suc number) table own are is there = rows_may tables rows number table own are.1 is there

module _ (db : Db) (none : IsFaultless db) where
  owner_case : (name : RowName) (table : TableDef) (row : Row) (rows : List Row) → (private : is_private db.schema name.table.0 ≡ true) → (has : Bool) → has_owner db name ≡ has
      → (if is_private db.schema name.table.0 && not (has_owner db name) then Owner table.name name.key ∷ [] else []) ≡ [] → has_owner db name ≡ true
  owner_case name table row rows private true has passes = has
  owner_case name table row rows private false has passes = let never : ◌≡◌ (Owner table.name name.key ∷ []) [] = rw (private, has) at passes in cc

  -- a row of a private table is owned
  owned : (name : RowName) (edge : Edge) → IsSome (row_of db name) → Contains db.schema.edges edge → IsTrue edge.owner → edge.lower ≡ name.table → IsOwned db name
  unfolding owner_faults
  owned name edge there among owner lower =
      let (row, found) = some_row (row_of db name) there in
      let (table, stand) = stands db name row found in
      let own : (edge.lower.0 == name.table.0) ≡ true = eq-eqb _ _ (ap (λ t. t.0) lower) in
      let private : is_private db.schema name.table.0 ≡ true =
      any_contained (λ (edge : Edge). edge.owner && edge.lower.0 == name.table.0) db.schema.edges edge among (and_from _ _ owner own) in
      let passes = each_row (owner_rule db) db none.owner name.table.0 table stand.rows row stand.table_is stand.rows_are stand.among in
      let named : ℕ → Key → RowName = λ n k. record { table = record { 0 = n }; key = k } in
      let passes_name : (if is_private db.schema name.table.0 && not (has_owner db (named name.table.0 name.key)) then Owner table.name name.key ∷ [] else []) ≡ [] =
      subst (λ k. (if is_private db.schema name.table.0 && not (has_owner db (named name.table.0 k)) then Owner table.name k ∷ [] else []) ≡ []) stand.key_is passes in
      let has = owner_from db name (owner_case name table row stand.rows private _ refl passes_name) in
      record { subject = has.0; owns = has.1 }

  names_case : (table : TableNo) (value : Value) → value ≢ Null → (column : Column) → IsOfKind column.kind value → names_a_row db table (literal_key value) ≡ true → NamesRow db table value
  names_case table Null some column of named = absurd (some refl)
  names_case table (Int number) some column of named = record { key = key.Int number; is = refl; there = named }
  names_case table (Text bytes) some column of named = record { key = key.Text bytes; is = refl; there = named }
  names_case table (Sum number) some column of named = absurd of

  module _ (rows_are : AreRowsOf db.schema.tables db.rows) where
    -- a reference that isn't NULL has its row
    references : (name : RowName) (number : ℕ) (column : Column) (value : Value) (link : RefKind × TableNo) → HoldsIn db name number column value
        → column.refers ≡ Some link → value ≢ Null → NamesRow db link.1 value
    unfolding reference_faults
    references name number column value link holds refers some =
        let held = held_row db name number column value holds in
        let stand = held.stand in
        let passes = each_row (reference_rule db) db none.reference name.table.0 held.table stand.rows held.row stand.table_is stand.rows_are stand.among in
        let fine = columns_pass (breaks_reference db) (λ h. Reference held.table.name (key_of held.table held.row) h.column.name) held.row held.table passes number column held.column_is in
        let own : breaks_reference db (record { number = number; column = column; value = value }) ≡ false =
        subst (λ v. breaks_reference db (record { number = number; column = column; value = v }) ≡ false) (cell_is held.row number value held.value_is) fine in
        let named : not (names_a_row db link.1 (literal_key value)) ≡ false = rw refers at own in
        let may = all_at (IsRowOf held.table) stand.rows held.row (rows_may db.schema.tables db.rows name.table.0 held.table stand.rows rows_are stand.table_is stand.rows_are) stand.among in
        let kind = no_sum held.table.columns held.row number value may.kinds held.value_is in
        names_case link.1 value some kind.0 kind.1 (not-false _ named)

  shared_step : (table : TableDef) (rows : List Row) (row other : Row) (number : ℕ) (column : Column) (value : Value) → breaks_unique table rows row (column_value row number column) ≡ false
      → column.unique ≡ true → value ≢ Null → cell row number ≡ value → cell other number ≡ value → Contains rows other → (has : Bool) → has_key table (key_of table row) other ≡ has
      → key_of table other ≡ key_of table row
  shared_step table rows row other number column value passes unique some own its among true has = one_key _ _ has
  shared_step table rows row other number column value passes unique some own its among false has =
      let whole : is_null (cell row number) ≡ false = ap is_null own ∙ is_null-not value some in
      let same : is_same_value (cell other number) (cell row number) ≡ true =
      subst (λ v. is_same_value (cell other number) v ≡ true) (its ∙ sym own) (value_same (cell other number)) in
      let shared = any_contained (λ other. not (has_key table (key_of table row) other) && is_same_value (cell other number) (cell row number)) rows other among
      (and_from _ _ (not_from_false _ has) same) in
      let breaks : breaks_unique table rows row (column_value row number column) ≡ true = and_from _ _ (and_from _ _ unique (not_from_false _ whole)) shared in
      let never : true ≡ false = sym breaks ∙ passes in
      cc

  -- no two rows share a value that is to be unique
  unique : (one other : RowName) (number : ℕ) (column : Column) (value : Value) → HoldsIn db one number column value → HoldsIn db other number column value
      → one.table ≡ other.table → IsTrue column.unique → value ≢ Null → one ≡ other
  unfolding unique_faults
  unique one other number column value holds holds_other table once some =
      let held = held_row db one number column value holds in
      let its : HeldRow db (record { table = one.table; key = other.key }) number column value =
      held_row db (record { table = one.table; key = other.key }) number column value
      (subst (λ (t : TableNo). HoldsIn db (record { table = t; key = other.key }) number column value) (sym table) holds_other) in
      let stand = held.stand in
      let stand_other = its.stand in
      let tables : ◌≡◌ {A = Option TableDef} (Some its.table) (Some held.table) = sym stand_other.table_is ∙ stand.table_is in
      let same_table : its.table ≡ held.table = cc in
      let lists : ◌≡◌ {A = Option (List Row)} (Some stand_other.rows) (Some stand.rows) = sym stand_other.rows_are ∙ stand.rows_are in
      let same_rows : stand_other.rows ≡ stand.rows = cc in
      let passes = each_row unique_rule db none.unique one.table.0 held.table stand.rows held.row stand.table_is stand.rows_are stand.among in
      let fine = columns_pass (breaks_unique held.table stand.rows held.row) (λ h. Unique held.table.name (key_of held.table held.row) h.column.name) held.row held.table passes number column held.column_is in
      let keys : key_of held.table its.row ≡ key_of held.table held.row =
      shared_step held.table stand.rows held.row its.row number column value fine once some (cell_is held.row number value held.value_is) (cell_is its.row number value its.value_is)
      (subst (λ rows. Contains rows its.row) same_rows stand_other.among) _ refl in
      let own_key : key_of held.table its.row ≡ other.key = subst (λ t. key_of t its.row ≡ other.key) same_table stand_other.key_is in
      let key_same : one.key ≡ other.key = sym stand.key_is ∙ (sym keys ∙ own_key) in
      let named : TableNo → Key → RowName = λ t k. record { table = t; key = k } in
      ap (named one.table) key_same ∙ ap (λ t. named t other.key) table

rows_within : (db : Db) → limit_faults db ≡ [] → (row_count db ≤ STORE_ROWS) × (weight db ≤ STORE_WEIGHT)
rows_within db none =
    let both = append-none _ _ none in
    let rows : nat_lt STORE_ROWS (row_count db) ≡ false = none-if _ _ both.0 in
    let weights : nat_lt STORE_WEIGHT (weight db) ≡ false = none-if _ _ both.1 in
    (ltb-false _ _ rows, ltb-false _ _ weights)

-- a sound database is consistent
pub consistent_from_sound : (db : Db) → Sound db → IsConsistent db
consistent_from_sound db sound =
    let none = faultless-from db sound.faultless in
    let limits = rows_within db none.limit in
    record { owned = owned db none; references = references db none sound.well_formed.rows; unique = unique db none; rows = limits.0; weighs = limits.1 }
