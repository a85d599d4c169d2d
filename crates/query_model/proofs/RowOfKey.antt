-- The one row of a key among rows whose keys rise.
use Rattle.std.proofs.Common.{◌≡◌, List, [], ◌∷◌, Bool, true, false, cond, Some, Ordering, map, refl, sym, ap, ◌∙◌}
use Rattle.std.specs.declared.cmp.Ordering.TheVariants.{Less, Equal, Greater}
use Rattle.std.specs.List.{AllByRecursion as Each, filter, find}
use Rattle.std.specs.List.Sorted.{IsStrictlySortedBy}
use Rattle.std.specs.Option.{option_to_list}
use Rattle.std.specs.Ordering.{ordering_reverse}
use Rattle.own_base.specs.Key.{key_cmp}
use Rattle.own_base.specs.declared.value.Key.{Key}
use Rattle.own_model.specs.declared.schema.TableDef.{TableDef}
use Rattle.own_model.specs.Db.{IsRising, Row, key_of}
use Rattle.own_model.specs.Stored.{has_key, is_equal}
use Rattle.own_model.proofs.KeyOrder.{key_order}
use Rattle.query_model.specs.Truth.{cell}
use Rattle.query_model.proofs.SortedRows.{none_pass}
use Rattle.query_model.specs.Stored.{IsStored}

-- only an equality is equal
pub equal_from : (ordering : Ordering) → is_equal ordering ≡ true → ordering ≡ Equal
equal_from Less is = cc
equal_from Equal is = refl
equal_from Greater is = cc

-- a test that no row of another key passes
module _ (table : TableDef) (key : Key) (passes : Row → Bool) (fails : (row : Row) → IsStored (cell row table.key.0) → has_key table key row ≡ false → passes row ≡ false) where
  -- no row behind one of this key has it
  others : (first : Row) (rest : List Row) → key_cmp (key_of table first) key ≡ Equal → Each (λ later. key_cmp (key_of table first) later ≡ Less) (map (key_of table) rest)
      → Each (λ row. IsStored (cell row table.key.0)) rest → Each (λ row. passes row ≡ false) rest
  others first [] equal rises stored = tt
  others first (next ∷ rest) equal rises stored =
      let above : key_cmp key (key_of table next) ≡ Less = sym (key_order.congr (key_of table first) key (key_of table next) equal) ∙ rises.0 in
      let greater : key_cmp (key_of table next) key ≡ Greater = key_order.antisymm (key_of table next) key ∙ ap ordering_reverse above in
      (fails next stored.0 (ap is_equal greater), others first rest equal rises.1 stored.1)

  -- the rows that pass are that of the key, where it passes
  pub passing_of_rising : (rows : List Row) → IsRising table rows → Each (λ row. IsStored (cell row table.key.0)) rows
      → filter passes rows ≡ filter passes (option_to_list (find (has_key table key) rows))
  unfolding IsStrictlySortedBy
  passing_of_rising [] rising stored = refl
  passing_of_rising (first ∷ rest) rising stored = by (passing_of_rising rest rising.1 stored.1) (has_key table key first) refl
    where
      by : filter passes rest ≡ filter passes (option_to_list (find (has_key table key) rest)) → (b : Bool) → has_key table key first ≡ b
          → filter passes (first ∷ rest) ≡ filter passes (option_to_list (cond b (Some first) (find (has_key table key) rest)))
      by more true is =
          let none : filter passes rest ≡ [] = none_pass passes rest (others first rest (equal_from _ is) rising.0 stored.1) in
          rw none refl
      by more false is = let passed : passes first ≡ false = fails first stored.0 is in rw passed more
