-- Who holds a value, told by look-ups.
use Rattle.std.proofs.Common.{◌≡◌, refl, sym, ◌∙◌, ap, List, [], ◌∷◌, ℕ, map, Some, None}
use Rattle.std.specs.Prelude.{Bool, true, false, cond, filter, find, is_some}
use Rattle.std.specs.List.{AllByRecursion as Each}
use Rattle.std.specs.List.Sorted.{IsStrictlySortedBy}
use Rattle.std.specs.Option.{option_map_or}
use Rattle.std.specs.Ordering.{is_eq}
use Rattle.std.specs.declared.cmp.Ordering.{Ordering}
use Rattle.std.specs.declared.cmp.Ordering.TheVariants.{Less, Equal, Greater}
use Rattle.own_base.specs.Key.{key_cmp}
use Rattle.own_base.specs.declared.value.Key.{Key}
use Rattle.own_model.specs.declared.schema.TableDef.{TableDef}
use Rattle.own_model.specs.Db.{IsRising as IsRisingTable, Row, key_of}
use Rattle.own_model.specs.Stored.{has_key, is_equal}
use Rattle.own_model.proofs.KeyOrder.{key_order}
use Rattle.page_model.specs.Found.{found}
use Rattle.page_model.specs.Rising.{IsRising}
use Rattle.page_model.proofs.Ordered.{above_from_below}
use Rattle.page_model.proofs.RisingLemmas.{each_map, each_mapped, each_weaker}
use Rattle.link_model.specs.Holds.{holders, holds}

-- a key itself
abbrev pub itself : Key → Key
itself key = key

-- two words for one test
equal_is : (o : Ordering) → is_eq o ≡ is_equal o
equal_is Less = refl
equal_is Equal = refl
equal_is Greater = refl

equal_from : (o : Ordering) → is_equal o ≡ true → o ≡ Equal
equal_from Less is = cc
equal_from Equal is = refl
equal_from Greater is = cc

module _ (table : TableDef) (column : ℕ) (value : Key) where
  -- some of rows above a row are above it
  above : (row : Row) (rows : List Row) → Each (λ other. key_cmp (key_of table row) (key_of table other) ≡ Less) rows
      → Each (λ key. key_cmp (key_of table row) key ≡ Less) (holders table rows column value)
  above row [] all = tt
  above row (other ∷ rows) all = by (holds column value other) (above row rows all.1)
    where
      by : (b : Bool) → Each (λ key. key_cmp (key_of table row) key ≡ Less) (holders table rows column value)
          → Each (λ key. key_cmp (key_of table row) key ≡ Less) (map (key_of table) (cond b (other ∷ filter (holds column value) rows) (filter (holds column value) rows)))
      by true more = (all.0, more)
      by false more = more

  -- the keys of those who hold a value rise
  pub holders_rise : (rows : List Row) → IsRisingTable table rows → IsRising itself key_cmp (holders table rows column value)
  unfolding IsStrictlySortedBy
  holders_rise [] rising = tt
  holders_rise (row ∷ rows) rising = by (holds column value row) (holders_rise rows rising.1)
    where
      by : (b : Bool) → IsRising itself key_cmp (holders table rows column value)
          → IsRising itself key_cmp (map (key_of table) (cond b (row ∷ filter (holds column value) rows) (filter (holds column value) rows)))
      by true more = (each_mapped _ itself (holders table rows column value) (above row rows (each_map _ (key_of table) rows rising.0)), more)
      by false more = more

  -- no row behind one has its key
  other_key : (key : Key) (row other : Row) → is_equal (key_cmp (key_of table row) key) ≡ true → key_cmp (key_of table row) (key_of table other) ≡ Less → has_key table key other ≡ false
  other_key key row other has below =
      let apart : key_cmp key (key_of table other) ≡ Less = sym (key_order.congr (key_of table row) key (key_of table other) (equal_from _ has)) ∙ below in
      ap is_equal (above_from_below key_order key (key_of table other) apart)

  none_found : (key : Key) (rows : List Row) → Each (λ row. has_key table key row ≡ false) rows → find (has_key table key) rows ≡ None
  none_found key [] fails = refl
  none_found key (row ∷ rows) fails = rw fails.0 (none_found key rows fails.1)

  -- a key is among them where the row that is found under it holds the value
  pub holders_have : (key : Key) (rows : List Row) → IsRisingTable table rows
      → is_some (found itself key_cmp key (holders table rows column value)) ≡ option_map_or (holds column value) (find (has_key table key) rows) false
  unfolding found IsStrictlySortedBy
  holders_have key [] rising = refl
  holders_have key (row ∷ rows) rising = by (holds column value row) (has_key table key row) refl refl (holders_have key rows rising.1)
    where
      by : (b d : Bool) → holds column value row ≡ b → has_key table key row ≡ d
          → is_some (find (λ each. is_eq (key_cmp each key)) (holders table rows column value)) ≡ option_map_or (holds column value) (find (has_key table key) rows) false
          → is_some (find (λ each. is_eq (key_cmp each key)) (map (key_of table) (cond b (row ∷ filter (holds column value) rows) (filter (holds column value) rows))))
          ≡ option_map_or (holds column value) (cond d (Some row) (find (has_key table key) rows)) false
      by true true here there more =
          let is : is_eq (key_cmp (key_of table row) key) ≡ true = equal_is _ ∙ there in
          rw (is, here) refl
      by true false here there more =
          let is : is_eq (key_cmp (key_of table row) key) ≡ false = equal_is _ ∙ there in
          rw is more
      by false true here there more =
          let none = none_found key rows (each_weaker _ _ (λ other. other_key key row other there) rows (each_map _ (key_of table) rows rising.0)) in
          more ∙ (ap (λ o. option_map_or (holds column value) o false) none ∙ sym here)
      by false false here there more = more
