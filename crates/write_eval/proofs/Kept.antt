-- The rows of a table that a test passes, by their keys.
use Rattle.std.proofs.Common.{◌≡◌, List, [], ◌∷◌, Bool, true, false, cond, Some, map, refl, sym, ap, ◌∙◌}
use Rattle.std.specs.declared.cmp.Ordering.TheVariants.{Less}
use Rattle.std.specs.List.{AllByRecursion as Each, filter, find, list_any}
use Rattle.std.specs.List.Sorted.{IsStrictlySortedBy}
use Rattle.std.proofs.lemmas.Cmp.{tied_itself}
use Rattle.own_base.specs.Key.{key_cmp}
use Rattle.own_model.specs.declared.schema.TableDef.{TableDef}
use Rattle.own_model.specs.Db.{IsRising, Row, key_of}
use Rattle.own_model.specs.Stored.{has_key, is_equal}
use Rattle.own_model.proofs.KeyOrder.{key_order}

module _ (table : TableDef) where
  -- under its own key a row is found
  abbrev pub IsFound : List Row → Row → Type 0
  IsFound rows row = find (has_key table (key_of table row)) rows ≡ Some row

  -- also behind a row of a lower key
  found_behind : (first : Row) (rest some : List Row) → Each (λ key. key_cmp (key_of table first) key ≡ Less) (map (key_of table) some) → Each (IsFound rest) some
      → Each (IsFound (first ∷ rest)) some
  found_behind first rest [] above found = tt
  found_behind first rest (row ∷ some) above found =
      let less : has_key table (key_of table row) first ≡ false = ap is_equal above.0 in
      (rw less found.0, found_behind first rest some above.1 found.1)

  -- each of rows whose keys rise is
  pub found_rows : (rows : List Row) → IsRising table rows → Each (IsFound rows) rows
  unfolding IsStrictlySortedBy
  found_rows [] rising = tt
  found_rows (first ∷ rest) rising =
      let own : has_key table (key_of table first) first ≡ true = ap is_equal (tied_itself key_order (key_of table first)) in
      (rw own refl, found_behind first rest rest rising.0 (found_rows rest rising.1))

-- what holds of each holds of those that pass, and they pass
module _ {X : Type 0} (P : X → Type 0) (passes : X → Bool) where
  pub each_passing : (xs : List X) → Each P xs → Each (λ x. P x × (passes x ≡ true)) (filter passes xs)
  each_passing [] all = tt
  each_passing (first ∷ rest) all = by (each_passing rest all.1) (passes first) refl
    where
      by : Each (λ x. P x × (passes x ≡ true)) (filter passes rest) → (b : Bool) → passes first ≡ b
          → Each (λ x. P x × (passes x ≡ true)) (cond b (first ∷ filter passes rest) (filter passes rest))
      by more true is = ((all.0, is), more)
      by more false is = more

-- where none of those that pass a test passes another, one that is found by that doesn't pass the first
module _ {X : Type 0} (has passes : X → Bool) where
  pub found_spared : (xs : List X) → list_any has (filter passes xs) ≡ false → (x : X) → find has xs ≡ Some x → passes x ≡ false
  found_spared [] none x is = cc
  found_spared (first ∷ rest) none x is = by (found_spared rest) (has first) (passes first) refl refl none is
    where
      by : (list_any has (filter passes rest) ≡ false → (x : X) → find has rest ≡ Some x → passes x ≡ false)
          → (here pass : Bool) → has first ≡ here → passes first ≡ pass → list_any has (cond pass (first ∷ filter passes rest) (filter passes rest)) ≡ false
          → cond here (Some first) (find has rest) ≡ Some x → passes x ≡ false
      by more true true own pass none is = let never : true ≡ false = rw own at none in cc
      by more true false own pass none is = let same : first ≡ x = cc in ap passes (sym same) ∙ pass
      by more false true own pass none is = more (rw own at none) x is
      by more false false own pass none is = more none x is
