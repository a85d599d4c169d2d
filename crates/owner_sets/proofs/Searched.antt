-- A key is looked for among rows whose keys rise.
use Rattle.std.proofs.Common.{◌≡◌, ℕ, zero, suc, ◌+◌, ◌<◌, ◌≤◌, List, [], ◌∷◌, length, map, true, false, inl, inr, refl, ap, sym, ◌∙◌, subst, arith}
use Rattle.std.specs.Prelude.{Option, Some, None, position, slice_get}
use Rattle.std.specs.List.Sorted.{IsStrictlySortedBy}
use Rattle.std.specs.Ordering.{ordering_reverse}
use Rattle.std.specs.declared.cmp.Ordering.TheVariants.{Less, Greater}
use Rattle.std.proofs.lemmas.Bool.{cases_lt}
use Rattle.std.proofs.lemmas.Cmp.{tied_itself}
use Rattle.own_base.specs.Key.{key_cmp}
use Rattle.own_base.specs.declared.value.Key.{Key}
use Rattle.own_model.specs.declared.schema.Schema.{Schema}
use Rattle.own_model.specs.declared.schema.TableDef.{TableDef}
use Rattle.own_model.specs.Db.{AreRising, IsRising, Row, key_of}
use Rattle.own_model.specs.Stored.{has_key, is_equal, rows_at}
use Rattle.own_model.proofs.KeyOrder.{key_order}
use Rattle.schema_model.proofs.Found.{position-some, position-there}
use Rattle.schema_model.proofs.Places.{all-at, place-lt, slice_get-in_map}
use Rattle.subject_model.proofs.NamedLemmas.{key_is, one_key}
use Rattle.owner_sets.specs.Links.{place_of}

-- at a later place there is a greater key
pub later_is_greater : (table : TableDef) (rows : List Row) (one other : ℕ) (first second : Row) → IsRising table rows → one < other
    → slice_get rows one ≡ Some first → slice_get rows other ≡ Some second → key_cmp (key_of table first) (key_of table second) ≡ Less
unfolding IsStrictlySortedBy
later_is_greater table [] one other first second rising before at_one at_other = let never : ◌≡◌ {A = Option Row} None (Some first) = at_one in cc
later_is_greater table (row ∷ rows) one zero first second rising before at_one at_other = absurd (omega arith)
later_is_greater table (row ∷ rows) zero (suc other) first second rising before at_one at_other =
    let same : row ≡ first = cc in
    subst (λ r. key_cmp (key_of table r) (key_of table second) ≡ Less) same
    (all-at (λ key. key_cmp (key_of table row) key ≡ Less) (map (key_of table) rows) rising.0 other (key_of table second) (slice_get-in_map (key_of table) rows other second at_other))
later_is_greater table (row ∷ rows) (suc one) (suc other) first second rising before at_one at_other =
    later_is_greater table rows one other first second rising.1 (omega arith) at_one at_other

-- so a key stands at one place
pub one_place : (table : TableDef) (rows : List Row) (one other : ℕ) (first second : Row) → IsRising table rows
    → slice_get rows one ≡ Some first → slice_get rows other ≡ Some second → key_of table first ≡ key_of table second → one ≡ other
one_place table rows one other first second rising at_one at_other same =
    elim (cases_lt one other) [
      | inl before ↦ absurd (differ first second (later_is_greater table rows one other first second rising before at_one at_other) same)
      | inr after ↦ elim (cases_lt other one) [
        | inl before ↦ absurd (differ second first (later_is_greater table rows other one second first rising before at_other at_one) (sym same))
        | inr also ↦ omega arith
      ]
    ]
  where
    differ : (row other_row : Row) → key_cmp (key_of table row) (key_of table other_row) ≡ Less → key_of table row ≡ key_of table other_row → ⊥
    differ row other_row below equal = let itself = tied_itself key_order (key_of table other_row) in
        let lower : key_cmp (key_of table other_row) (key_of table other_row) ≡ Less = subst (λ key. key_cmp key (key_of table other_row) ≡ Less) equal below in cc

-- that is the place that is found
pub position_of_key : (table : TableDef) (rows : List Row) (place : ℕ) (row : Row) (key : Key) → IsRising table rows → slice_get rows place ≡ Some row → key_of table row ≡ key
    → position (has_key table key) rows ≡ Some place
position_of_key table rows place row key rising at is =
    let passes : has_key table key row ≡ true = subst (λ k. is_equal (key_cmp (key_of table row) k) ≡ true) is (key_is (key_of table row)) in
    let there = position-there (has_key table key) rows place row at passes in
    let found = position-some (has_key table key) rows there.0 there.1 in
    let key_found : key_of table found.0 ≡ key = one_key _ _ found.2 in
    let same : there.0 ≡ place = one_place table rows there.0 place found.0 row rising found.1 at (key_found ∙ sym is) in
    there.1 ∙ ap Some same

-- it is the one by which a table's row is found
pub place_of-definition : (schema : Schema) (rows : List (List Row)) (number : ℕ) (table : TableDef) (key : Key) → slice_get schema.tables number ≡ Some table
    → place_of schema rows number key ≡ position (has_key table key) (rows_at rows number)
unfolding place_of
place_of-definition schema rows number table key is = rw is refl

-- the keys of a table's rows rise
pub rising_at : (tables : List TableDef) (rows : List (List Row)) (number : ℕ) (table : TableDef) → AreRising tables rows → slice_get tables number ≡ Some table → IsRising table (rows_at rows number)
rising_at [] rows number table rising found = let never : ◌≡◌ {A = Option TableDef} None (Some table) = found in cc
rising_at (first ∷ tables) [] number table rising found = absurd rising
rising_at (first ∷ tables) (row ∷ rows) zero table rising found = let is : first ≡ table = cc in subst (λ t. IsRising t row) is rising.0
rising_at (first ∷ tables) (row ∷ rows) (suc number) table rising found = rising_at tables rows number table rising.1 found

-- Rows before one place have lower keys, and from another place on greater ones.
pub record Narrowed (table : TableDef) (key : Key) (rows : List Row) (low high : ℕ) : Type 0 where
  pub in_order : low ≤ high
  pub within : high ≤ length rows
  pub below : (place : ℕ) (row : Row) → place < low → slice_get rows place ≡ Some row → key_cmp (key_of table row) key ≡ Less
  pub above : (place : ℕ) (row : Row) → high ≤ place → slice_get rows place ≡ Some row → key_cmp (key_of table row) key ≡ Greater

module _ (table : TableDef) (key : Key) (rows : List Row) where
  -- at first any row may have it
  pub Narrowed-start : (count : ℕ) → count ≡ length rows → Narrowed table key rows 0 count
  Narrowed-start count is =
      record {
        in_order = omega arith;
        within = omega arith;
        below = λ place row before at. absurd (omega arith);
        above = λ place row after at. absurd (omega (arith, place-lt rows place row at));
      }

  -- a row of a lower key leaves those behind it
  pub Narrowed-behind : (low high middle : ℕ) (row : Row) → IsRising table rows → Narrowed table key rows low high → middle < high → slice_get rows middle ≡ Some row
      → key_cmp (key_of table row) key ≡ Less → Narrowed table key rows (middle + 1) high
  Narrowed-behind low high middle row rising is before at lower =
      record {
        in_order = omega arith;
        within = is.within;
        below = λ place other earlier found. elim (cases_lt place middle) [
          | inl less ↦ key_order.trans (key_of table other) (key_of table row) key (later_is_greater table rows place middle other row rising less found at) lower
          | inr not_less ↦
              let here : place ≡ middle = omega arith in
              let same : ◌≡◌ {A = Option Row} (Some row) (Some other) = sym at ∙ (ap (slice_get rows) (sym here) ∙ found) in
              let one : row ≡ other = cc in
              subst (λ r. key_cmp (key_of table r) key ≡ Less) one lower
        ];
        above = is.above;
      }

  -- one of a greater key leaves those before it
  pub Narrowed-before : (low high middle : ℕ) (row : Row) → IsRising table rows → Narrowed table key rows low high → low ≤ middle → slice_get rows middle ≡ Some row
      → key_cmp (key_of table row) key ≡ Greater → Narrowed table key rows low middle
  Narrowed-before low high middle row rising is after at greater =
      record {
        in_order = after;
        within = omega (arith, place-lt rows middle row at);
        below = is.below;
        above = λ place other later found. elim (cases_lt middle place) [
          | inl less ↦
              let reversed : key_cmp key (key_of table row) ≡ Less = key_order.antisymm key (key_of table row) ∙ ap ordering_reverse greater in
              let lower : key_cmp key (key_of table other) ≡ Less = key_order.trans key (key_of table row) (key_of table other) reversed (later_is_greater table rows middle place row other rising less at found) in
              key_order.antisymm (key_of table other) key ∙ ap ordering_reverse lower
          | inr not_less ↦
              let here : place ≡ middle = omega arith in
              let same : ◌≡◌ {A = Option Row} (Some row) (Some other) = sym at ∙ (ap (slice_get rows) (sym here) ∙ found) in
              let one : row ≡ other = cc in
              subst (λ r. key_cmp (key_of table r) key ≡ Greater) one greater
        ];
      }

  -- where no place is left no row has it
  pub Narrowed-end : (low high : ℕ) → Narrowed table key rows low high → high ≤ low → position (has_key table key) rows ≡ None
  Narrowed-end low high is none_left = by (position (has_key table key) rows) refl
    where
      by : (o : Option ℕ) → position (has_key table key) rows ≡ o → position (has_key table key) rows ≡ None
      by None none = none
      by (Some place) some =
          let found = position-some (has_key table key) rows place some in
          elim (cases_lt place low) [
            | inl before ↦ let less = is.below place found.0 before found.1 in let never : false ≡ true = sym (ap is_equal less) ∙ found.2 in cc
            | inr after ↦ let greater = is.above place found.0 (omega (arith, is.in_order)) found.1 in let never : false ≡ true = sym (ap is_equal greater) ∙ found.2 in cc
          ]
