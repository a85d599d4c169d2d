-- The place of a bound among rows whose keys rise, by halves.
use Rattle.std.proofs.Common.{◌≡◌, ℕ, zero, suc, ◌+◌, ◌<◌, ◌≤◌, List, [], ◌∷◌, Bool, true, false, map, length, inl, inr, refl, sym, ap, ◌∙◌, subst, arith}
use Rattle.std.specs.declared.cmp.Ordering.{Ordering}
use Rattle.std.specs.declared.cmp.Ordering.TheVariants.{Less, Equal, Greater}
use Rattle.std.specs.List.{AllByRecursion as Each}
use Rattle.std.specs.List.Sorted.{IsStrictlySortedBy}
use Rattle.std.proofs.lemmas.Bool.{cases_eq}
use Rattle.std.proofs.lemmas.Cmp.{alike_right}
use Rattle.own_base.specs.Key.{key_cmp}
use Rattle.own_base.specs.declared.value.Key.{Key}
use Rattle.own_base.specs.declared.value.Value.{Value}
use Rattle.own_model.specs.declared.schema.TableDef.{TableDef}
use Rattle.own_model.specs.Db.{IsRising, Row, as_key, key_of}
use Rattle.own_model.proofs.KeyOrder.{key_order}
use Rattle.query_eval.specs.KeyRange.{is_before, is_before_bound, row_in}

module _ (table : TableDef) where
  -- a key below those of some rows is below each of them
  later : (key : Key) (rows : List Row) (j : ℕ) → Each (λ other. key_cmp key other ≡ Less) (map (key_of table) rows) → j < length rows → key_cmp key (key_of table (row_in rows j)) ≡ Less
  later key [] j rises within = absurd (omega arith)
  later key (row ∷ rows) zero rises within = rises.0
  later key (row ∷ rows) (suc j) rises within = later key rows j rises.1 (omega arith)

  -- the key of an earlier row is below that of a later one
  rising_places : (rows : List Row) (i j : ℕ) → IsRising table rows → i < j → j < length rows → key_cmp (key_of table (row_in rows i)) (key_of table (row_in rows j)) ≡ Less
  unfolding IsStrictlySortedBy
  rising_places [] i j rising before within = absurd (omega arith)
  rising_places (row ∷ rows) i zero rising before within = absurd (omega arith)
  rising_places (row ∷ rows) zero (suc j) rising before within = later (key_of table row) rows j rising.0 (omega arith)
  rising_places (row ∷ rows) (suc i) (suc j) rising before within = rising_places rows i j rising.1 (omega arith) (omega arith)

-- what is below what is before a bound is before it
before_by : (behind : Bool) (x y z : Key) (o : Ordering) → key_cmp x y ≡ Less → key_cmp y z ≡ o → is_before_bound behind o ≡ true → is_before_bound behind (key_cmp x z) ≡ true
before_by behind x y z Less below is passes = ap (is_before_bound behind) (key_order.trans x y z below is)
before_by behind x y z Equal below is passes = ap (is_before_bound behind) (sym (alike_right key_order y z x is) ∙ below)
before_by behind x y z Greater below is passes = cc

-- the rows before the first place are before a bound, and those from the second on are not
pub record IsSearched (table : TableDef) (value : Value) (behind : Bool) (rows : List Row) (low high : ℕ) : Type 0 where
  pub order : low ≤ high
  pub within : high ≤ length rows
  pub front : (k : ℕ) → k < low → is_before table value behind (row_in rows k) ≡ true
  pub back : (k : ℕ) → high ≤ k → k < length rows → is_before table value behind (row_in rows k) ≡ false

module _ (table : TableDef) (value : Value) (behind : Bool) (rows : List Row) (rising : IsRising table rows) where
  -- no row before a bound comes behind one that isn't
  before_earlier : (i j : ℕ) → i ≤ j → j < length rows → is_before table value behind (row_in rows j) ≡ true → is_before table value behind (row_in rows i) ≡ true
  before_earlier i j upto within passes = elim (cases_eq i j) [
    | inl same ↦ subst (λ n. is_before table value behind (row_in rows n) ≡ true) (sym same) passes
    | inr other ↦ before_by behind _ _ (as_key value) _ (rising_places table rows i j rising (omega arith) within) refl passes
  ]

  -- and behind one that isn't none is
  not_before_later : (i j : ℕ) (b : Bool) → i ≤ j → j < length rows → is_before table value behind (row_in rows i) ≡ false → is_before table value behind (row_in rows j) ≡ b → is_before table value behind (row_in rows j) ≡ false
  not_before_later i j true upto within fails is = let never : true ≡ false = sym (before_earlier i j upto within is) ∙ fails in cc
  not_before_later i j false upto within fails is = is

  -- the row in the middle is before the bound, and so are those before it
  pub search_goes_up : (low high middle : ℕ) (test : Bool) → IsSearched table value behind rows low high → low ≤ middle → middle < high → test ≡ is_before table value behind (row_in rows middle) → test ≡ true → IsSearched table value behind rows (middle + 1) high
  search_goes_up low high middle test searched from upto answers passes =
      let within = searched.within in
      record { order = omega arith; within = within; front = λ k before. before_earlier k middle (omega arith) (omega arith) (sym answers ∙ passes); back = searched.back }

  -- it isn't, and neither are those behind it
  pub search_goes_down : (low high middle : ℕ) (test : Bool) → IsSearched table value behind rows low high → low ≤ middle → middle < high → test ≡ is_before table value behind (row_in rows middle) → test ≡ false → IsSearched table value behind rows low middle
  search_goes_down low high middle test searched from upto answers fails =
      let within = searched.within in
      record { order = from; within = omega arith; front = searched.front; back = λ k after last. not_before_later middle k _ after last (sym answers ∙ fails) refl }
