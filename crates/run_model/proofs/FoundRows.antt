-- The row of a key that is found among some.
use Rattle.std.proofs.Common.{◌≡◌, List, [], ◌∷◌, Bool, true, false, cond, Some, None, map, refl, sym, ap, ◌∙◌, ◌||◌, subst}
use Rattle.std.specs.declared.cmp.Ordering.TheVariants.{Less, Equal, Greater}
use Rattle.std.specs.List.{AllByRecursion as Each, filter, find, list_any}
use Rattle.std.specs.List.Sorted.{IsStrictlySortedBy}
use Rattle.std.specs.Option.{is_some, option_map}
use Rattle.std.specs.Ordering.{ordering_reverse}
use Rattle.std.proofs.lemmas.Cmp.{alike_right}
use Rattle.std.proofs.lemmas.Map.Entries.{option_filter}
use Rattle.own_base.specs.Key.{key_cmp}
use Rattle.own_base.specs.declared.value.Key.{Key}
use Rattle.own_model.specs.declared.schema.TableDef.{TableDef}
use Rattle.own_model.specs.Db.{IsRising, Row, key_of}
use Rattle.own_model.specs.Stored.{has_key, is_equal}
use Rattle.own_model.proofs.KeyOrder.{key_order}
use Rattle.query_model.proofs.RowOfKey.{equal_from}

module _ {X : Type 0} (p : X → Bool) where
  -- whether a member passes is whether one is found
  pub any_by_find : (xs : List X) → list_any p xs ≡ is_some (find p xs)
  any_by_find [] = refl
  any_by_find (first ∷ rest) = by (any_by_find rest) (p first)
    where
      by : list_any p rest ≡ is_some (find p rest) → (b : Bool) → (b || list_any p rest) ≡ is_some (cond b (Some first) (find p rest))
      by more true = refl
      by more false = more

  -- what is found passes, and has what each member has
  pub found_has : (P : X → Type 0) (xs : List X) → Each P xs → (x : X) → find p xs ≡ Some x → (p x ≡ true) × P x
  found_has P [] all x is = cc
  found_has P (first ∷ rest) all x is = by (found_has P rest all.1 x) (p first) refl is
    where
      by : (find p rest ≡ Some x → (p x ≡ true) × P x) → (b : Bool) → p first ≡ b → cond b (Some first) (find p rest) ≡ Some x → (p x ≡ true) × P x
      by more true passes is = let same : first ≡ x = cc in (ap p (sym same) ∙ passes, subst P same all.0)
      by more false passes is = more is

  -- another test that agrees finds the same
  pub find_agree : (q : X → Bool) → ((x : X) → p x ≡ q x) → (xs : List X) → find p xs ≡ find q xs
  find_agree q same [] = refl
  find_agree q same (first ∷ rest) = rw (same first, find_agree q same rest) refl

  -- members that are changed without what the test sees
  pub find-map : (change : X → X) → ((x : X) → p (change x) ≡ p x) → (xs : List X) → find p (map change xs) ≡ option_map change (find p xs)
  find-map change same [] = refl
  find-map change same (first ∷ rest) = by (find-map change same rest) (p first) refl
    where
      by : find p (map change rest) ≡ option_map change (find p rest) → (b : Bool) → p first ≡ b
          → find p (map change (first ∷ rest)) ≡ option_map change (cond b (Some first) (find p rest))
      by more true is = rw (same first, is) refl
      by more false is = rw (same first, is) more

  -- where none passes, none of a part is found
  pub none_found : (q : X → Bool) (xs : List X) → Each (λ x. p x ≡ false) xs → find p (filter q xs) ≡ None
  none_found q [] none = refl
  none_found q (first ∷ rest) none = by (none_found q rest none.1) (q first)
    where
      by : find p (filter q rest) ≡ None → (b : Bool) → find p (cond b (first ∷ filter q rest) (filter q rest)) ≡ None
      by more true = rw none.0 more
      by more false = more

module _ (table : TableDef) where
  -- rows of tied keys have the same keys
  pub has_tied_key : (key other : Key) → key_cmp key other ≡ Equal → (row : Row) → has_key table key row ≡ has_key table other row
  has_tied_key key other tied row = ap is_equal (alike_right key_order key other (key_of table row) tied)

  -- a row of one key has no other
  pub has_one_key : (key other : Key) (row : Row) → has_key table key row ≡ true → has_key table other row ≡ is_equal (key_cmp key other)
  has_one_key key other row has = ap is_equal (key_order.congr (key_of table row) key other (equal_from _ has))

  behind : (key : Key) (first : Row) (rest : List Row) → key_cmp (key_of table first) key ≡ Equal → Each (λ later. key_cmp (key_of table first) later ≡ Less) (map (key_of table) rest)
      → Each (λ row. has_key table key row ≡ false) rest
  behind key first [] equal rises = tt
  behind key first (next ∷ rest) equal rises =
      let above : key_cmp key (key_of table next) ≡ Less = sym (key_order.congr (key_of table first) key (key_of table next) equal) ∙ rises.0 in
      let greater : key_cmp (key_of table next) key ≡ Greater = key_order.antisymm (key_of table next) key ∙ ap ordering_reverse above in
      (ap is_equal greater, behind key first rest equal rises.1)

  -- the row of a key among those that pass: the row of the key, where it passes
  pub find-filter : (key : Key) (passes : Row → Bool) (rows : List Row) → IsRising table rows
      → find (has_key table key) (filter passes rows) ≡ option_filter passes (find (has_key table key) rows)
  unfolding IsStrictlySortedBy
  find-filter key passes [] rising = refl
  find-filter key passes (first ∷ rest) rising = by (find-filter key passes rest rising.1) (has_key table key first) (passes first) refl refl
    where
      by : find (has_key table key) (filter passes rest) ≡ option_filter passes (find (has_key table key) rest)
          → (has pass : Bool) → has_key table key first ≡ has → passes first ≡ pass
          → find (has_key table key) (cond pass (first ∷ filter passes rest) (filter passes rest)) ≡ option_filter passes (cond has (Some first) (find (has_key table key) rest))
      by more true true is kept = rw (is, kept) refl
      by more true false is kept = rw kept (none_found (has_key table key) passes rest (behind key first rest (equal_from _ is) rising.0))
      by more false true is kept = rw is more
      by more false false is kept = more
