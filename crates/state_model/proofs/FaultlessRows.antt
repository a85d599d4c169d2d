-- A database that is consistent has no fault.
use Rattle.std.proofs.Common.{◌≡◌, ℕ, zero, suc, ◌+◌, List, [], ◌∷◌, ◌++◌, Bool, true, false, not, refl, ap, sym, ◌∙◌, subst, arith}
use Rattle.std.specs.Prelude.{◌≢◌, ◌&&◌, ◌==◌, ◌↔◌, Contains, Option, None, Some, is_some, nat_lt, slice_get, if◌then◌else◌}
use Rattle.std.proofs.lemmas.Bool.{and_parts, eqb-true, false_from_ne_true, le-ltb, not-true}
use Rattle.std.proofs.lemmas.List.Elements.{Contains-append_left, Contains-append_right}
use Rattle.own_base.specs.declared.number.TableNo.{TableNo}
use Rattle.own_base.specs.declared.value.Key.{Key}
use Rattle.own_base.specs.declared.value.Key.TheVariants as key
use Rattle.own_base.specs.declared.value.Value.{Value}
use Rattle.own_base.specs.declared.value.Value.TheVariants.{Null, Int, Text, Sum}
use Rattle.own_model.specs.declared.limit.TheConstants.{STORE_ROWS, STORE_WEIGHT}
use Rattle.own_model.specs.declared.refusal.Refusal.{Refusal}
use Rattle.own_model.specs.declared.refusal.Refusal.TheVariants.{Reference, Unique}
use Rattle.own_model.specs.declared.schema.Column.{Column}
use Rattle.own_model.specs.declared.schema.Edge.{Edge}
use Rattle.own_model.specs.declared.schema.RefKind.{RefKind}
use Rattle.own_model.specs.declared.schema.TableDef.{TableDef}
use Rattle.own_model.specs.Db.{Db, Row, key_of}
use Rattle.own_model.specs.Stored.{has_key}
use Rattle.owner_model.specs.Joins.{row_of, value_of}
use Rattle.query_model.specs.Footprints.{literal_key}
use Rattle.query_model.specs.Truth.{cell, is_null}
use Rattle.schema_model.specs.Tables.{is_private}
use Rattle.subject_model.specs.Named.{NamedRow, name_of, named_rows, rows_from, rows_in}
use Rattle.subject_model.specs.Owners.{has_owner}
use Rattle.subject_model.proofs.Members.{contains_any, contains_map}
use Rattle.subject_model.proofs.NamedLemmas.{key_is, row_of-named}
use Rattle.subject_model.proofs.OwnerLemmas.{from_owner}
use Rattle.state_model.specs.Consistent.{HoldsIn, IsConsistent, NamesRow}
use Rattle.state_model.specs.Fault.{breaks_reference, breaks_unique, limit_faults, names_a_row, owner_faults, owner_rule, reference_faults, reference_rule, unique_faults, unique_rule}
use Rattle.state_model.specs.Same.{is_same_value}
use Rattle.state_model.specs.Sound.{IsWellFormed, Sound}
use Rattle.state_model.specs.Weight.{row_count, weight}
use Rattle.state_model.proofs.Consistency.{consistent_from_sound}
use Rattle.state_model.proofs.CreatedSchema.{owner_schema-created}
use Rattle.state_model.proofs.FaultLemmas.{pass_columns, row_each}
use Rattle.state_model.proofs.Faultless.{from-faultless}
use Rattle.state_model.proofs.SameLemmas.{one_value}

-- a row of a table among the named rows
named_among : (number : ℕ) (tables : List TableDef) (rows : List (List Row)) (place : ℕ) (table : TableDef) (own : List Row) (row : Row) → slice_get tables place ≡ Some table
    → slice_get rows place ≡ Some own → Contains own row → Contains (rows_from number tables rows) (record { name = name_of (number + place) table row; row = row })
unfolding rows_from
named_among number [] rows place table own row is there among = let never : ◌≡◌ {A = Option TableDef} None (Some table) = is in cc
named_among number (first ∷ tables) [] place table own row is there among = let never : ◌≡◌ {A = Option (List Row)} None (Some own) = there in cc
named_among number (first ∷ tables) (one ∷ rows) zero table own row is there among =
    let same : first ≡ table = cc in
    let list : own ≡ one = cc in
    let n : number ≡ number + zero = omega arith in
    let named : ℕ → TableDef → NamedRow = λ n t. record { name = name_of n t row; row = row } in
    let here : Contains (rows_in number first one) (named number first) = contains_map (λ row. record { name = name_of number first row; row = row }) one row (subst (λ l. Contains l row) list among) in
    subst (λ n. Contains (rows_in number first one ++ rows_from (number + 1) tables rows) (named n table)) n
    (subst (λ t. Contains (rows_in number first one ++ rows_from (number + 1) tables rows) (named number t)) same
    (Contains-append_left (rows_in number first one) (rows_from (number + 1) tables rows) (named number first) here))
named_among number (first ∷ tables) (one ∷ rows) (suc place) table own row is there among =
    let n : number + 1 + place ≡ number + suc place = omega arith in
    let named : ℕ → NamedRow = λ n. record { name = name_of n table row; row = row } in
    subst (λ n. Contains (rows_in number first one ++ rows_from (number + 1) tables rows) (named n)) n
    (Contains-append_right (rows_in number first one) (rows_from (number + 1) tables rows) (named (number + 1 + place)) (named_among (number + 1) tables rows place table own row is there among))

-- a cell that isn't NULL stands in the row
cell_some : (row : Row) (place : ℕ) → cell row place ≢ Null → slice_get row place ≡ Some (cell row place)
cell_some [] place some = absurd (some refl)
cell_some (first ∷ row) zero some = refl
cell_some (first ∷ row) (suc place) some = cell_some row place some

whole_is : (value : Value) → is_null value ≡ false → value ≢ Null
whole_is value whole null = let never : true ≡ false = subst (λ v. is_null v ≡ false) null whole in cc

-- a key is its value's
key_of_value : (own : Key) → literal_key (value_of own) ≡ Some own
key_of_value (key.Int number) = refl
key_of_value (key.Text bytes) = refl

no_refusal : (test : Bool) (why : Refusal) → test ≡ false → (if test then why ∷ [] else []) ≡ []
no_refusal true why fails = let never : true ≡ false = fails in cc
no_refusal false why fails = refl

module _ (db : Db) (kept : IsWellFormed db) (consistent : IsConsistent db) where
  module _ (number : ℕ) (table : TableDef) (rows : List Row) (row : Row) (is : slice_get db.schema.tables number ≡ Some table) (there : slice_get db.rows number ≡ Some rows) (among : Contains rows row) where
    found : row_of db (name_of number table row) ≡ Some row
    found =
        let n : 0 + number ≡ number = omega arith in
        let named : ℕ → NamedRow = λ n. record { name = name_of n table row; row = row } in
        row_of-named db (named number) kept.ordered (subst (λ n. Contains (named_rows db) (named n)) n (named_among 0 db.schema.tables db.rows number table rows row is there among))

    holds : (place : ℕ) (column : Column) → slice_get table.columns place ≡ Some column → cell row place ≢ Null → HoldsIn db (name_of number table row) place column (cell row place)
    holds place column at some = record { table = table; table_is = is; column_is = at; holds = rw found (cell_some row place some) }

    owner_case : (private : Bool) → is_private db.schema number ≡ private → (is_private db.schema number && not (has_owner db (name_of number table row))) ≡ false
    owner_case false open_table = rw open_table refl
    owner_case true private =
        let (edge, listed, passes) = contains_any (λ (edge : Edge). edge.owner && edge.lower.0 == number) db.schema.edges private in
        let both = and_parts edge.owner (edge.lower.0 == number) passes in
        let table_no : ℕ → TableNo = λ n. record { 0 = n } in
        let lower : edge.lower ≡ table_no number = ap table_no (eqb-true edge.lower.0 number both.1) in
        let owned = consistent.owned (name_of number table row) edge (ap is_some found) listed both.0 lower in
        let has : has_owner db (name_of number table row) ≡ true = from_owner db (name_of number table row) kept.ordered (owner_schema-created db kept.created) (owned.subject, owned.owns) in
        rw (private, has) refl

    owner_none : owner_rule db number table rows row ≡ []
    owner_none = no_refusal _ _ (owner_case _ refl)

    reference_case : (place : ℕ) (column : Column) → slice_get table.columns place ≡ Some column → (refers : Option (RefKind × TableNo)) → column.refers ≡ refers
        → breaks_reference db (record { number = place; column = column; value = cell row place }) ≡ false
    reference_case place column at None none = rw none refl
    reference_case place column at (Some link) some = rw some (by (cell row place) refl)
      where
        named : cell row place ≢ Null → not (names_a_row db link.1 (literal_key (cell row place))) ≡ false
        named whole =
            let names : NamesRow db link.1 (cell row place) = consistent.references (name_of number table row) place column (cell row place) link (holds place column at whole) some whole in
            let key_same : literal_key (cell row place) ≡ Some names.key = ap literal_key names.is ∙ key_of_value names.key in
            rw (key_same, names.there) refl

        by : (value : Value) → cell row place ≡ value → not (names_a_row db link.1 (literal_key (cell row place))) ≡ false
        by Null same = rw same refl
        by (Int found) same = named (λ null. let never : Null ≡ Int found = sym null ∙ same in cc)
        by (Text bytes) same = named (λ null. let never : Null ≡ Text bytes = sym null ∙ same in cc)
        by (Sum found) same = named (λ null. let never : Null ≡ Sum found = sym null ∙ same in cc)

    reference_none : reference_rule db number table rows row ≡ []
    reference_none = pass_columns (breaks_reference db) (λ held. Reference table.name (key_of table row) held.column.name) row table (λ place column at. reference_case place column at _ refl)

  unique_none : (number : ℕ) (table : TableDef) (rows : List Row) (row : Row) → slice_get db.schema.tables number ≡ Some table → slice_get db.rows number ≡ Some rows → Contains rows row
      → unique_rule number table rows row ≡ []
  unique_none number table rows row is there among =
      pass_columns (breaks_unique table rows row) (λ held. Unique table.name (key_of table row) held.column.name) row table (λ place column at. false_from_ne_true _ (λ breaks.
      let apart : Row → Bool = λ other. not (has_key table (key_of table row) other) && is_same_value (cell other place) (cell row place) in
      let parts = and_parts (column.unique && not (is_null (cell row place))) _ breaks in
      let whole = and_parts column.unique (not (is_null (cell row place))) parts.0 in
      let some : cell row place ≢ Null = whole_is (cell row place) (not-true (is_null (cell row place)) whole.1) in
      let (other, listed, passes) = contains_any apart rows parts.1 in
      let both = and_parts (not (has_key table (key_of table row) other)) (is_same_value (cell other place) (cell row place)) passes in
      let same : cell other place ≡ cell row place = one_value (cell other place) (cell row place) both.1 in
      let own = holds number table rows row is there among place column at some in
      let its = holds number table rows other is there listed place column at (subst (λ v. v ≢ Null) (sym same) some) in
      let its_value : HoldsIn db (name_of number table other) place column (cell row place) = subst (HoldsIn db (name_of number table other) place column) same its in
      let names : name_of number table other ≡ name_of number table row =
      consistent.unique (name_of number table other) (name_of number table row) place column (cell row place) its_value own refl whole.0 some in
      let keys : key_of table other ≡ key_of table row = ap (λ name. name.key) names in
      let has : has_key table (key_of table row) other ≡ true = subst (λ k. has_key table k other ≡ true) keys (key_is (key_of table other)) in
      let fails : has_key table (key_of table row) other ≡ false = not-true _ both.0 in
      let never : true ≡ false = sym has ∙ fails in
      cc))

  limits_none : limit_faults db ≡ []
  limits_none =
      let rows : nat_lt STORE_ROWS (row_count db) ≡ false = le-ltb _ _ consistent.rows in
      let weights : nat_lt STORE_WEIGHT (weight db) ≡ false = le-ltb _ _ consistent.weighs in
      rw (rows, weights) refl

  -- so it is sound
  pub sound_from_consistent : Sound db
  unfolding unique_faults reference_faults owner_faults
  sound_from_consistent = record {
    well_formed = kept;
    faultless = from-faultless db (record {
      unique = row_each unique_rule db unique_none;
      reference = row_each (reference_rule db) db reference_none;
      owner = row_each (owner_rule db) db owner_none;
      limit = limits_none;
    });
  }

-- both ways
pub sound-iff_consistent : (db : Db) → IsWellFormed db → (Sound db) ↔ (IsConsistent db)
sound-iff_consistent db kept = (consistent_from_sound db, sound_from_consistent db kept)
