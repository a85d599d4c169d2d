-- Looking for the place of a key by halves.
use Rattle.std.proofs.Common.{◌≡◌, refl, sym, ◌∙◌, ap, ℕ, ◌+◌, ◌-◌, ◌<◌, ◌≤◌, List, Some, length, drop, get_or, arith}
use Rattle.std.specs.Prelude.{Bool, true, false, slice_get}
use Rattle.std.specs.Ordering.{is_lt}
use Rattle.std.proofs.lemmas.List.{get_or-drop, length-drop}
use Rattle.std.proofs.lemmas.Option.{slice_get-get_or}
use Rattle.own_base.specs.Key.{key_cmp}
use Rattle.own_base.specs.declared.value.Key.{Key}
use Rattle.own_model.specs.declared.schema.TableDef.{TableDef}
use Rattle.own_model.specs.Db.{Row, key_of}
use Rattle.own_model.proofs.KeyOrder.{key_order}
use Rattle.page_model.specs.Place.{IsPlaceOf}
use Rattle.page_model.specs.Rising.{IsRising}
use Rattle.page_model.proofs.PlaceLemmas.{partitioned, place_from_partition}

-- whether a row is below a key
abbrev pub is_below : TableDef → Key → Row → Bool
is_below table key row = is_lt (key_cmp (key_of table row) key)

-- from one place on, the rows before the second are below the key, and those from the third on are not
pub record IsSearched (table : TableDef) (key : Key) (rows : List Row) (from low high : ℕ) : Type 0 where
  pub behind : from ≤ low
  pub order : low ≤ high
  pub within : high ≤ length rows
  pub below : (k : ℕ) (d : Row) → from ≤ k → k < low → is_below table key (get_or rows k d) ≡ true
  pub others : (k : ℕ) (d : Row) → high ≤ k → k < length rows → is_below table key (get_or rows k d) ≡ false

pub search_begins : (table : TableDef) (key : Key) (rows : List Row) (from high : ℕ) → from ≤ length rows → high ≡ length rows → IsSearched table key rows from from high
search_begins table key rows from high within all =
    record { behind = omega arith; order = omega arith; within = omega arith; below = λ k d low high. absurd (omega arith); others = λ k d low high. absurd (omega arith) }

-- the row in the middle is below the key, and so are those before it
pub search_goes_up : (table : TableDef) (key : Key) (rows : List Row) (from low high middle : ℕ) (test : Bool) → IsRising (key_of table) key_cmp rows → IsSearched table key rows from low high → low ≤ middle → middle < high
    → ((row : Row) → slice_get rows middle ≡ Some row → test ≡ is_below table key row) → test ≡ true → IsSearched table key rows from (middle + 1) high
search_goes_up table key rows from low high middle test rising searched behind before answers passes =
    let bound = searched.within in
    let order = searched.behind in
    record {
      behind = omega arith;
      order = omega arith;
      within = searched.within;
      below = λ k d low_k high_k. partitioned (key_of table) key_order key rows rising k middle d (omega arith) (omega arith) (sym (answers (get_or rows middle d) (slice_get-get_or rows middle d (omega arith))) ∙ passes);
      others = searched.others;
    }

-- it isn't, and neither are those behind it
not_below_later : (table : TableDef) (key : Key) (rows : List Row) (i j : ℕ) (d : Row) → IsRising (key_of table) key_cmp rows → i ≤ j → j < length rows → is_below table key (get_or rows i d) ≡ false
    → (test : Bool) → is_below table key (get_or rows j d) ≡ test → is_below table key (get_or rows j d) ≡ false
not_below_later table key rows i j d rising upto within fails true is = let never = partitioned (key_of table) key_order key rows rising i j d upto within is in let no : true ≡ false = sym never ∙ fails in cc
not_below_later table key rows i j d rising upto within fails false is = is

pub search_goes_down : (table : TableDef) (key : Key) (rows : List Row) (from low high middle : ℕ) (test : Bool) → IsRising (key_of table) key_cmp rows → IsSearched table key rows from low high → low ≤ middle → middle < high
    → ((row : Row) → slice_get rows middle ≡ Some row → test ≡ is_below table key row) → test ≡ false → IsSearched table key rows from low middle
search_goes_down table key rows from low high middle test rising searched behind before answers fails =
    let bound = searched.within in
    record {
      behind = searched.behind;
      order = behind;
      within = omega arith;
      below = searched.below;
      others = λ k d low_k high_k. not_below_later table key rows middle k d rising low_k high_k (sym (answers (get_or rows middle d) (slice_get-get_or rows middle d (omega arith))) ∙ fails) _ refl;
    }

-- the place is found where nothing is left between
pub search_ends : (table : TableDef) (key : Key) (rows : List Row) (from low high : ℕ) → IsSearched table key rows from low high → high ≤ low → IsPlaceOf (key_of table) key_cmp key (drop from rows) (low - from)
search_ends table key rows from low high searched none =
    let bound = searched.within in
    let front = searched.behind in
    place_from_partition (key_of table) key_order key (drop from rows) (low - from) (omega (arith, length-drop from rows)) (
      (λ k d low_k high_k. ap (is_below table key) (get_or-drop from rows k d) ∙ searched.below (from + k) d (omega arith) (omega arith)),
      (λ k d low_k high_k. ap (is_below table key) (get_or-drop from rows k d) ∙ searched.others (from + k) d (omega arith) (omega (arith, length-drop from rows))),
    )
