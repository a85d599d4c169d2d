-- The keys of rows, rising, each once.
use Rattle.std.proofs.Common.{◌≡◌, refl, ◌∙◌, ap, List, [], ◌∷◌, fold}
use Rattle.std.specs.Prelude.{Bool, true, false, cond, Option, Some, None}
use Rattle.std.specs.List.{AllByRecursion as Each}
use Rattle.std.specs.List.Sorted.{IsStrictlySortedBy}
use Rattle.std.specs.Ordering.{is_eq}
use Rattle.std.specs.declared.cmp.Ordering.{Ordering}
use Rattle.std.specs.declared.cmp.Ordering.TheVariants.{Less, Equal, Greater}
use Rattle.own_base.specs.Key.{key_cmp}
use Rattle.own_base.specs.declared.value.Key.{Key}
use Rattle.own_model.specs.declared.schema.TableDef.{TableDef}
use Rattle.own_model.specs.Db.{Row, key_of}
use Rattle.own_model.proofs.KeyOrder.{key_order}
use Rattle.page_model.specs.Found.{found}
use Rattle.page_model.specs.Rising.{IsRising}
use Rattle.page_model.proofs.Ordered.{below_from_above}
use Rattle.page_model.proofs.RisingLemmas.{each_mapped, each_weaker, rising_behind, rising_tail}
use Rattle.query_model.specs.Footprints.{at_first, with_key}

-- a key itself
abbrev pub itself : Key → Key
itself key = key

-- a key more stays above what is below all
below_first : (low new first : Key) (rest further : List Key) → key_cmp low new ≡ Less → Each (λ key. key_cmp low key ≡ Less) (first ∷ rest) → Each (λ key. key_cmp low key ≡ Less) further
    → (o : Ordering) → Each (λ key. key_cmp low key ≡ Less) (at_first o new first rest further)
below_first low new first rest further below all more Less = (below, all)
below_first low new first rest further below all more Equal = all
below_first low new first rest further below all more Greater = (all.0, more)

below_with : (low new : Key) (keys : List Key) → key_cmp low new ≡ Less → Each (λ key. key_cmp low key ≡ Less) keys → Each (λ key. key_cmp low key ≡ Less) (with_key new keys)
below_with low new [] below all = (below, tt)
below_with low new (first ∷ rest) below all = below_first low new first rest (with_key new rest) below all (below_with low new rest below all.1) (key_cmp new first)

-- and they rise
rising_first : (new first : Key) (rest : List Key) → IsRising itself key_cmp (first ∷ rest) → IsRising itself key_cmp (with_key new rest) → (o : Ordering) → key_cmp new first ≡ o → IsRising itself key_cmp (at_first o new first rest (with_key new rest))
unfolding IsStrictlySortedBy
rising_first new first rest rising more Less is =
    (each_mapped _ itself (first ∷ rest) (is, each_weaker _ _ (λ key. key_order.trans new first key is) rest (rising_behind itself key_cmp first rest rising)), rising)
rising_first new first rest rising more Equal is = rising
rising_first new first rest rising more Greater is =
    (each_mapped _ itself (with_key new rest) (below_with first new rest (below_from_above key_order new first is) (rising_behind itself key_cmp first rest rising)), more)

rising_with : (new : Key) (keys : List Key) → IsRising itself key_cmp keys → IsRising itself key_cmp (with_key new keys)
unfolding IsStrictlySortedBy
rising_with new [] rising = (tt, tt)
rising_with new (first ∷ rest) rising = rising_first new first rest rising (rising_with new rest (rising_tail itself key_cmp first rest rising)) (key_cmp new first) refl

-- what isn't found fails
split : {X : Type 0} (b : Bool) (x : X) (o : Option X) → cond b (Some x) o ≡ None → (b ≡ false) × (o ≡ None)
split true x o is = let never : Some x ≡ None = is in cc
split false x o is = (refl, is)

-- a key that isn't among keys with one more is neither among them nor the one
missing_first : (key new first : Key) (rest : List Key) → (found itself key_cmp key (with_key new rest) ≡ None → (found itself key_cmp key rest ≡ None) × (is_eq (key_cmp new key) ≡ false))
    → (o : Ordering) → key_cmp new first ≡ o → found itself key_cmp key (at_first o new first rest (with_key new rest)) ≡ None → (found itself key_cmp key (first ∷ rest) ≡ None) × (is_eq (key_cmp new key) ≡ false)
unfolding found
missing_first key new first rest more Less is none = let parts = split (is_eq (key_cmp new key)) new (found itself key_cmp key (first ∷ rest)) none in (parts.1, parts.0)
missing_first key new first rest more Equal is none =
    let parts = split (is_eq (key_cmp first key)) first (found itself key_cmp key rest) none in
    (none, ap is_eq (key_order.congr new first key is) ∙ parts.0)
missing_first key new first rest more Greater is none =
    let parts = split (is_eq (key_cmp first key)) first (found itself key_cmp key (with_key new rest)) none in
    let later = more parts.1 in
    (rw parts.0 later.0, later.1)

missing_with : (key new : Key) (keys : List Key) → found itself key_cmp key (with_key new keys) ≡ None → (found itself key_cmp key keys ≡ None) × (is_eq (key_cmp new key) ≡ false)
unfolding found
missing_with key new [] none = let parts = split (is_eq (key_cmp new key)) new None none in (refl, parts.0)
missing_with key new (first ∷ rest) none = missing_first key new first rest (missing_with key new rest) (key_cmp new first) refl none

module _ (table : TableDef) where
  -- the keys of rows rise
  pub keys_rise : (rows : List Row) (keys : List Key) → IsRising itself key_cmp keys → IsRising itself key_cmp (fold (λ all row. with_key (key_of table row) all) keys rows)
  keys_rise [] keys rising = rising
  keys_rise (row ∷ rows) keys rising = keys_rise rows (with_key (key_of table row) keys) (rising_with (key_of table row) keys rising)

  -- and no row has a key that isn't among them
  pub keys_missing : (key : Key) (rows : List Row) (keys : List Key) → found itself key_cmp key (fold (λ all row. with_key (key_of table row) all) keys rows) ≡ None
      → (found itself key_cmp key keys ≡ None) × (found (key_of table) key_cmp key rows ≡ None)
  unfolding found
  keys_missing key [] keys none = (none, refl)
  keys_missing key (row ∷ rows) keys none =
      let later = keys_missing key rows (with_key (key_of table row) keys) none in
      let here = missing_with key (key_of table row) keys later.0 in
      (here.0, rw here.1 later.1)
