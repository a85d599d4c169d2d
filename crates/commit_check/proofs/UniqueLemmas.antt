-- A value that another row holds too is counted more than once.
use Rattle.std.proofs.Common.{◌≡◌, ℕ, zero, suc, ◌+◌, ◌<◌, List, [], ◌∷◌, Bool, true, false, map, refl, sym, ap, ◌∙◌, subst, arith}
use Rattle.std.specs.Prelude.{Contains, Option, None, Some, ◌&&◌, count_by, nat_lt, not, slice_get}
use Rattle.std.specs.List.{AllByRecursion, list_any}
use Rattle.std.specs.List.Sorted.{IsStrictlySortedBy}
use Rattle.std.specs.Ordering.{ordering_reverse}
use Rattle.std.specs.declared.cmp.Ordering.TheVariants.{Less}
use Rattle.std.proofs.lemmas.Bool.{ltb_from_iff, lt-ltb, ltb-true}
use Rattle.std.proofs.lemmas.Option.{slice_get_read}
use Rattle.own_base.specs.Key.{key_cmp}
use Rattle.own_model.specs.declared.schema.Column.{Column}
use Rattle.own_model.specs.declared.schema.TableDef.{TableDef}
use Rattle.own_model.specs.Db.{IsRising, Row, key_of}
use Rattle.own_model.specs.Stored.{has_key, is_equal}
use Rattle.own_model.proofs.KeyOrder.{key_order}
use Rattle.owner_model.proofs.CountLemmas.{count_by-fails, count_by-one, count_by-passes}
use Rattle.query_model.specs.Truth.{cell, is_null}
use Rattle.schema_model.proofs.Places.{all-at, slice_get-in_map}
use Rattle.subject_model.proofs.NamedLemmas.{key_is}
use Rattle.state_model.specs.Fault.{breaks_unique, is_shared}
use Rattle.state_model.proofs.FaultLemmas.{column_value}
use Rattle.state_model.proofs.SameLemmas.{value_same}
use Rattle.commit_check.specs.ValueCounts.{holds}

-- one test more below two counts
next_lt : (m n : ℕ) → nat_lt m n ≡ nat_lt (m + 1) (1 + n)
next_lt m n = ltb_from_iff ((λ is. let less = ltb-true m n is in omega arith), (λ less. lt-ltb m n (omega arith)))

module _ (table : TableDef) (row : Row) (p : Row → Bool) where
  -- whether another row passes
  abbrev apart : Row → Bool
  apart other = not (has_key table (key_of table row) other) && p other

  lower_apart : (other : Row) → key_cmp (key_of table other) (key_of table row) ≡ Less → has_key table (key_of table row) other ≡ false
  lower_apart other less = rw less refl

  upper_apart : (other : Row) → key_cmp (key_of table row) (key_of table other) ≡ Less → has_key table (key_of table row) other ≡ false
  upper_apart other less = ap is_equal (key_order.antisymm (key_of table other) (key_of table row) ∙ ap ordering_reverse less)

  -- a row that has the key, or fails, is no other row that passes
  passed_over : (other : Row) (rest : List Row) → p other ≡ false → has_key table (key_of table row) other ≡ false → list_any apart (other ∷ rest) ≡ list_any apart rest
  passed_over other rest fails differs = rw (fails, differs) refl

  itself_over : (other : Row) (rest : List Row) → has_key table (key_of table row) other ≡ true → list_any apart (other ∷ rest) ≡ list_any apart rest
  itself_over other rest own = rw own refl

  passing : (other : Row) (rest : List Row) → p other ≡ true → has_key table (key_of table row) other ≡ false → list_any apart (other ∷ rest) ≡ true
  passing other rest passes differs = rw (passes, differs) refl

  others_step : (other : Row) (rest : List Row) (b : Bool) → p other ≡ b → has_key table (key_of table row) other ≡ false → list_any apart rest ≡ nat_lt 0 (count_by p rest)
      → list_any apart (other ∷ rest) ≡ nat_lt 0 (count_by p (other ∷ rest))
  others_step other rest true passes differs hence =
      let more = count_by-passes p other rest passes in passing other rest passes differs ∙ sym (lt-ltb 0 (count_by p (other ∷ rest)) (omega arith))
  others_step other rest false fails differs hence = passed_over other rest fails differs ∙ (hence ∙ ap (nat_lt 0) (sym (count_by-fails p other rest fails)))

  -- where all have greater keys, another row passes where any does
  others : (rows : List Row) → AllByRecursion (λ key. key_cmp (key_of table row) key ≡ Less) (map (key_of table) rows) → list_any apart rows ≡ nat_lt 0 (count_by p rows)
  others [] all = refl
  others (other ∷ rows) all = others_step other rows (p other) refl (upper_apart other all.0) (others rows all.1)

  module _ (passes : p row ≡ true) where
    later_step : (other : Row) (rest : List Row) (b : Bool) → p other ≡ b → has_key table (key_of table row) other ≡ false → 0 < count_by p rest
        → list_any apart rest ≡ nat_lt 1 (count_by p rest) → list_any apart (other ∷ rest) ≡ nat_lt 1 (count_by p (other ∷ rest))
    later_step other rest true is differs more hence =
        let one = count_by-passes p other rest is in passing other rest is differs ∙ sym (lt-ltb 1 (count_by p (other ∷ rest)) (omega arith))
    later_step other rest false is differs more hence = passed_over other rest is differs ∙ (hence ∙ ap (nat_lt 1) (sym (count_by-fails p other rest is)))

    -- another row passes where more than one does
    pub another : (rows : List Row) (place : ℕ) → IsRising table rows → slice_get rows place ≡ Some row → list_any apart rows ≡ nat_lt 1 (count_by p rows)
    unfolding IsStrictlySortedBy
    another [] place rising is = let never : ◌≡◌ {A = Option Row} None (Some row) = is in cc
    another (other ∷ rows) zero rising is =
        let same : other ≡ row = cc in
        let own : has_key table (key_of table row) other ≡ true = ap (λ r. is_equal (key_cmp (key_of table r) (key_of table row))) same ∙ key_is (key_of table row) in
        let here : p other ≡ true = ap p same ∙ passes in
        let above = subst (λ r. AllByRecursion (λ key. key_cmp (key_of table r) key ≡ Less) (map (key_of table) rows)) same rising.0 in
        itself_over other rows own ∙ (others rows above ∙ (next_lt 0 (count_by p rows) ∙ ap (nat_lt 1) (sym (count_by-passes p other rows here))))
    another (other ∷ rows) (suc place) rising is =
        let below : key_cmp (key_of table other) (key_of table row) ≡ Less =
        all-at (λ key. key_cmp (key_of table other) key ≡ Less) (map (key_of table) rows) rising.0 place (key_of table row) (slice_get-in_map (key_of table) rows place row is) in
        later_step other rows (p other) refl (lower_apart other below) (count_by-one p rows place row is passes) (another rows place rising.1 is)

joined : (unique null many shared : Bool) → (unique ≡ true → many ≡ shared) → (unique && (not null && many)) ≡ ((unique && not null) && shared)
joined true true many shared same = refl
joined true false many shared same = same refl
joined false null many shared same = refl

-- so a column breaks UNIQUE where what the row holds there, which isn't NULL, is counted more than once
pub breaks-counted : (table : TableDef) (rows : List Row) (row : Row) (number : ℕ) (column : Column) (breaks : Bool) → IsRising table rows → Contains rows row
    → breaks ≡ (column.unique && (not (is_null (cell row number)) && nat_lt 1 (count_by (holds number (cell row number)) rows))) → breaks ≡ breaks_unique table rows row (column_value row number column)
breaks-counted table rows row number column breaks rising (place, within, at) is =
    let there : slice_get rows place ≡ Some row = slice_get_read rows _ place row refl within (sym at) in
    let value = cell row number in
    is
    ∙ joined column.unique (is_null value) (nat_lt 1 (count_by (holds number value) rows)) (is_shared table rows (key_of table row) number value)
    (λ unique. sym (another table row (holds number value) (value_same value) rows place rising there))
