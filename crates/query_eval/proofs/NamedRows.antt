-- The rows of the keys of rows are those rows.
use Rattle.std.proofs.Common.{◌≡◌, List, [], ◌∷◌, ◌++◌, Bool, true, false, cond, Option, Some, map, refl, sym, ap, ◌∙◌}
use Rattle.std.specs.Prelude.{flat_map, slice_get}
use Rattle.std.specs.List.{AllByRecursion as Each, filter, find}
use Rattle.std.specs.List.Sorted.{IsStrictlySortedBy}
use Rattle.std.specs.Option.{option_and_then, option_to_list}
use Rattle.std.specs.Ordering.{ordering_reverse}
use Rattle.std.specs.declared.cmp.Ordering.{Ordering}
use Rattle.std.specs.declared.cmp.Ordering.TheVariants.{Less, Equal, Greater}
use Rattle.own_base.specs.Key.{key_cmp}
use Rattle.own_base.specs.declared.number.TableNo.{TableNo}
use Rattle.own_base.specs.declared.value.Key.{Key}
use Rattle.own_model.specs.declared.schema.Schema.{Schema}
use Rattle.own_model.specs.declared.schema.TableDef.{TableDef}
use Rattle.own_model.specs.Db.{IsRising, Row, key_of}
use Rattle.own_model.specs.Stored.{has_key, is_equal, row_named, rows_at}
use Rattle.own_model.proofs.KeyOrder.{key_order}
use Rattle.query_eval.specs.NamedRows.{rows_named}

-- what is the same both ways round is equal
self_equal : (o : Ordering) → o ≡ ordering_reverse o → is_equal o ≡ true
self_equal Less is = cc
self_equal Equal is = refl
self_equal Greater is = cc

-- what holds of each of some holds of each that passes
each_passing : {X : Type 0} (P : X → Type 0) (p : X → Bool) (xs : List X) → Each P xs → Each P (filter p xs)
each_passing P p [] all = tt
each_passing P p (x ∷ xs) all = by (p x) (each_passing P p xs all.1)
  where
    by : (b : Bool) → Each P (filter p xs) → Each P (cond b (x ∷ filter p xs) (filter p xs))
    by true more = (all.0, more)
    by false more = more

module _ (table : TableDef) where
  -- a row behind another isn't looked for where that one isn't of its key
  found_behind : (first : Row) (rest : List Row) (rows : List Row) → Each (λ later. key_cmp (key_of table first) later ≡ Less) (map (key_of table) rows)
      → Each (λ row. find (has_key table (key_of table row)) rest ≡ Some row) rows → Each (λ row. find (has_key table (key_of table row)) (first ∷ rest) ≡ Some row) rows
  found_behind first rest [] below found = tt
  found_behind first rest (row ∷ rows) below found =
      let other : has_key table (key_of table row) first ≡ false = ap is_equal below.0 in
      (rw other found.0, found_behind first rest rows below.1 found.1)

  -- each of some rows whose keys rise is found by its key
  finds_itself : (rows : List Row) → IsRising table rows → Each (λ row. find (has_key table (key_of table row)) rows ≡ Some row) rows
  unfolding IsStrictlySortedBy
  finds_itself [] rising = tt
  finds_itself (first ∷ rest) rising =
      let own : has_key table (key_of table first) first ≡ true = self_equal _ (key_order.antisymm (key_of table first) (key_of table first)) in
      (rw own refl, found_behind first rest rest rising.0 (finds_itself rest rising.1))

module _ (schema : Schema) (rows : List (List Row)) (number : TableNo) (table : TableDef) (at : slice_get schema.tables number.0 ≡ Some table) where
  -- the row of a key is looked for in its table
  named_in : (key : Key) → row_named schema rows (record { table = number; key = key }) ≡ find (has_key table key) (rows_at rows number.0)
  unfolding row_named
  named_in key = ap (λ (o : Option TableDef). option_and_then (λ definition. find (has_key definition key) (rows_at rows number.0)) o) at

  named_back : (some : List Row) → Each (λ row. find (has_key table (key_of table row)) (rows_at rows number.0) ≡ Some row) some → rows_named schema rows number (map (key_of table) some) ≡ some
  named_back [] found = refl
  named_back (row ∷ some) found =
      let own : option_to_list (row_named schema rows (record { table = number; key = key_of table row })) ≡ row ∷ [] = ap option_to_list (named_in (key_of table row) ∙ found.0) in
      ap (λ (front : List Row). front ++ rows_named schema rows number (map (key_of table) some)) own ∙ ap (λ (rest : List Row). row ∷ rest) (named_back some found.1)

  -- those of rows that pass a test
  pub passing_named : (p : Row → Bool) → IsRising table (rows_at rows number.0) → rows_named schema rows number (map (key_of table) (filter p (rows_at rows number.0))) ≡ filter p (rows_at rows number.0)
  passing_named p rising = named_back (filter p (rows_at rows number.0)) (each_passing _ p (rows_at rows number.0) (finds_itself table (rows_at rows number.0) rising))
