-- What an INSERT does to a table, by look-ups: it depends on the rows of its tuples' keys, and other keys keep their rows.
use Rattle.std.proofs.Common.{◌≡◌, List, [], ◌∷◌, Bool, true, false, cond, fold, Some, refl, sym, ap, ◌∙◌, ◌||◌}
use Rattle.std.specs.Prelude.{Result, Ok, Err}
use Rattle.std.specs.declared.cmp.Ordering.TheVariants.{Equal}
use Rattle.std.specs.List.{AllByRecursion as Each, find, list_any}
use Rattle.std.specs.Option.{is_some}
use Rattle.std.proofs.lemmas.Cmp.{tied_back}
use Rattle.own_base.specs.Key.{key_cmp}
use Rattle.own_base.specs.declared.value.Key.{Key}
use Rattle.own_model.specs.declared.schema.TableDef.{TableDef}
use Rattle.own_model.specs.Db.{Row, key_of}
use Rattle.own_model.specs.Stored.{has_key, is_equal}
use Rattle.own_model.proofs.KeyOrder.{key_order}
use Rattle.query_model.proofs.RowOfKey.{equal_from}
use Rattle.run_model.specs.Insert.{and_tuple, precedes, with_row, with_tuple, with_tuples}
use Rattle.run_model.proofs.FoundRows.{any_by_find}

module _ (table : TableDef) where
  -- of a key that a row has, no other row is found where the row's own key isn't there
  apart : (key : Key) (row first : Row) → has_key table (key_of table row) first ≡ false → has_key table key row ≡ true → has_key table key first ≡ false
  apart key row first other has = by (has_key table key first) refl
    where
      by : (b : Bool) → has_key table key first ≡ b → has_key table key first ≡ false
      by false is = is
      by true is =
          let tied : key_cmp key (key_of table row) ≡ Equal = tied_back key_order (key_of table row) key (equal_from _ has) in
          let same : key_cmp (key_of table first) (key_of table row) ≡ Equal = key_order.congr (key_of table first) key (key_of table row) (equal_from _ is) ∙ tied in
          let never : true ≡ false = sym (ap is_equal same) ∙ other in
          cc

  -- the row that is found after a row more
  found_at_place : (key : Key) (row first : Row) (rest : List Row) → has_key table (key_of table row) first ≡ false
      → find (has_key table key) (with_row table row rest) ≡ cond (has_key table key row) (Some row) (find (has_key table key) rest)
      → (b : Bool) → precedes table first row ≡ b
      → find (has_key table key) (with_row table row (first ∷ rest)) ≡ cond (has_key table key row) (Some row) (find (has_key table key) (first ∷ rest))
  unfolding with_row
  found_at_place key row first rest absent more false is = rw is refl
  found_at_place key row first rest absent more true is = rw is (rw more (by (has_key table key row) refl))
    where
      by : (b : Bool) → has_key table key row ≡ b
          → cond (has_key table key first) (Some first) (cond b (Some row) (find (has_key table key) rest)) ≡ cond b (Some row) (cond (has_key table key first) (Some first) (find (has_key table key) rest))
      by true has = rw (apart key row first absent has) refl
      by false has = refl

  neither : (left right : Bool) → left || right ≡ false → (left ≡ false) × (right ≡ false)
  neither false right none = (refl, none)
  neither true right none = cc

  pub found-with_row : (key : Key) (row : Row) (rows : List Row) → list_any (has_key table (key_of table row)) rows ≡ false
      → find (has_key table key) (with_row table row rows) ≡ cond (has_key table key row) (Some row) (find (has_key table key) rows)
  unfolding with_row
  found-with_row key row [] absent = refl
  found-with_row key row (first ∷ rest) absent =
      let both = neither (has_key table (key_of table row) first) (list_any (has_key table (key_of table row)) rest) absent in
      found_at_place key row first rest both.0 (found-with_row key row rest both.1) _ refl

  -- the same row of a key is found in both
  abbrev pub IsSameAt : List Row → List Row → Key → Type 0
  IsSameAt rows others key = find (has_key table key) rows ≡ find (has_key table key) others

  -- two results are refused by one key, or have the same rows of some keys
  abbrev pub AreAlike : (Key → Type 0) → Result (List Row) Key → Result (List Row) Key → Type 0
  AreAlike P (Ok rows) (Ok others) = (key : Key) → P key → IsSameAt rows others key
  AreAlike P (Err key) (Err other) = key ≡ other
  AreAlike P _ _ = ⊥

  module _ (P : Key → Type 0) where
    alike_tuple : (rows others : List Row) (tuple : Row) → ((key : Key) → P key → IsSameAt rows others key)
        → (b : Bool) → list_any (has_key table (key_of table tuple)) rows ≡ b → list_any (has_key table (key_of table tuple)) others ≡ b
        → AreAlike P (with_tuple table rows tuple) (with_tuple table others tuple)
    unfolding with_tuple
    alike_tuple rows others tuple same true is also = rw (is, also) refl
    alike_tuple rows others tuple same false is also =
        rw (is, also) (λ key has. rw (found-with_row key tuple rows is, found-with_row key tuple others also, same key has) refl)

    alike_next : (before befores : Result (List Row) Key) (tuple : Row) → AreAlike P before befores → P (key_of table tuple)
        → AreAlike P (and_tuple table before tuple) (and_tuple table befores tuple)
    alike_next (Ok rows) (Ok others) tuple same has =
        alike_tuple rows others tuple same (list_any (has_key table (key_of table tuple)) rows) refl
        (any_by_find _ others ∙ (ap is_some (sym (same (key_of table tuple) has)) ∙ sym (any_by_find _ rows)))
    alike_next (Err key) (Err other) tuple same has = same
    alike_next (Ok rows) (Err key) tuple same has = absurd same
    alike_next (Err key) (Ok rows) tuple same has = absurd same

    alike_fold : (before befores : Result (List Row) Key) (tuples : List Row) → AreAlike P before befores → Each (λ tuple. P (key_of table tuple)) tuples
        → AreAlike P (fold (and_tuple table) before tuples) (fold (and_tuple table) befores tuples)
    alike_fold before befores [] same all = same
    alike_fold before befores (tuple ∷ tuples) same all =
        alike_fold (and_tuple table before tuple) (and_tuple table befores tuple) tuples (alike_next before befores tuple same all.0) all.1

  -- Rows that are the same at the tuples' keys: both take the tuples or neither does, and each key that has the same row before
  -- has the same row behind.
  pub alike-with_tuples : (rows others tuples : List Row) → Each (λ tuple. IsSameAt rows others (key_of table tuple)) tuples
      → AreAlike (IsSameAt rows others) (with_tuples table rows tuples) (with_tuples table others tuples)
  unfolding with_tuples
  alike-with_tuples rows others tuples all = alike_fold (IsSameAt rows others) (Ok rows) (Ok others) tuples (λ key same. same) all

  -- a key that no tuple has keeps its row
  abbrev pub IsStill : List Row → Key → Result (List Row) Key → Type 0
  IsStill rows key (Ok new) = IsSameAt rows new key
  IsStill rows key (Err other) = Unit {0}

  module _ (rows : List Row) (key : Key) where
    still_tuple : (new : List Row) (tuple : Row) → IsSameAt rows new key → has_key table key tuple ≡ false
        → (b : Bool) → list_any (has_key table (key_of table tuple)) new ≡ b → IsStill rows key (with_tuple table new tuple)
    unfolding with_tuple
    still_tuple new tuple same other true is = rw is tt
    still_tuple new tuple same other false is = rw is (same ∙ sym (found-with_row key tuple new is ∙ rw other refl))

    still_next : (before : Result (List Row) Key) (tuple : Row) → IsStill rows key before → has_key table key tuple ≡ false → IsStill rows key (and_tuple table before tuple)
    still_next (Ok new) tuple same other = still_tuple new tuple same other _ refl
    still_next (Err at) tuple same other = tt

    still_fold : (before : Result (List Row) Key) (tuples : List Row) → IsStill rows key before → Each (λ tuple. has_key table key tuple ≡ false) tuples
        → IsStill rows key (fold (and_tuple table) before tuples)
    still_fold before [] same all = same
    still_fold before (tuple ∷ tuples) same all = still_fold (and_tuple table before tuple) tuples (still_next before tuple same all.0) all.1

    pub still-with_tuples : (tuples : List Row) → Each (λ tuple. has_key table key tuple ≡ false) tuples → IsStill rows key (with_tuples table rows tuples)
    unfolding with_tuples
    still-with_tuples tuples all = still_fold (Ok rows) tuples refl all
