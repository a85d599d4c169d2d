-- Rows behind their keys, with one more.
use Rattle.std.proofs.Common.{◌≡◌, ◌+◌, List, [], ◌∷◌, Bool, true, false, cond, Some, None, Ordering, refl, ap, ◌∙◌, length, arith}
use Rattle.std.specs.declared.cmp.Ordering.TheVariants.{Less, Equal, Greater}
use Rattle.std.specs.BTreeMap.{insert_entry, is_at}
use Rattle.std.specs.List.{AllByRecursion as Each, list_any}
use Rattle.std.specs.List.Sorted.{IsStrictlySortedBy}
use Rattle.std.specs.Map.{keys_of, lookup}
use Rattle.std.specs.Ordering.{is_eq, match_ordering, ordering_reverse}
use Rattle.std.proofs.lemmas.Bool.{or_parts}
use Rattle.std.proofs.lemmas.Cmp.{tied_itself}
use Rattle.own_base.specs.Key.{key_cmp}
use Rattle.own_base.specs.declared.value.Key.{Key}
use Rattle.own_model.specs.Db.{Row}
use Rattle.own_model.specs.Stored.{is_equal}
use Rattle.own_model.proofs.KeyOrder.{key_order}
use Rattle.run_model.proofs.Overlaps.{at_key}
use Rattle.write_eval.specs.Insertions.{Given}

-- the order of keys, as a map takes it
module _ (order : Key → Key → Ordering) (same : (left right : Key) → order left right ≡ key_cmp left right) where
  pub insert_entry-is : (given : Given) (key : Key) (row : Row) → insert_entry order given key row ≡ insert_entry key_cmp given key row
  insert_entry-is [] key row = refl
  insert_entry-is (entry ∷ given) key row = rw (same key entry.0, insert_entry-is given key row) refl

  pub lookup-is : (given : Given) (key : Key) → lookup (is_at (order key)) given ≡ lookup (is_at (key_cmp key)) given
  lookup-is [] key = refl
  lookup-is (entry ∷ given) key = rw (same key entry.0, lookup-is given key) refl

module _ (key : Key) (row : Row) where
  -- what a look-up finds with a row of a new key
  pub lookup-more : (other : Key) (given : Given) → lookup (is_at (key_cmp key)) given ≡ None
      → lookup (is_at (key_cmp other)) (insert_entry key_cmp given key row) ≡ cond (is_at (key_cmp other) key) (Some row) (lookup (is_at (key_cmp other)) given)
  lookup-more other [] none = refl
  lookup-more other (entry ∷ given) none = by (lookup-more other given) (key_cmp key entry.0) refl none
    where
      behind : key_cmp key entry.0 ≡ Greater → (b : Bool) → is_at (key_cmp other) key ≡ b
          → cond (is_at (key_cmp other) entry.0) (Some entry.1) (cond b (Some row) (lookup (is_at (key_cmp other)) given))
          ≡ cond b (Some row) (cond (is_at (key_cmp other) entry.0) (Some entry.1) (lookup (is_at (key_cmp other)) given))
      behind above false is = refl
      behind above true is =
          let apart : is_at (key_cmp other) entry.0 ≡ false = ap is_eq (key_order.congr other key entry.0 (tied _ is) ∙ above) in
          rw apart refl
        where
          tied : (o : Ordering) → is_eq o ≡ true → o ≡ Equal
          tied Less is = cc
          tied Equal is = refl
          tied Greater is = cc

      by : (lookup (is_at (key_cmp key)) given ≡ None
          → lookup (is_at (key_cmp other)) (insert_entry key_cmp given key row) ≡ cond (is_at (key_cmp other) key) (Some row) (lookup (is_at (key_cmp other)) given))
          → (o : Ordering) → key_cmp key entry.0 ≡ o → cond (is_eq o) (Some entry.1) (lookup (is_at (key_cmp key)) given) ≡ None
          → lookup (is_at (key_cmp other)) (match_ordering o ((key, row) ∷ entry ∷ given) ((entry.0, row) ∷ given) (entry ∷ insert_entry key_cmp given key row))
          ≡ cond (is_at (key_cmp other) key) (Some row) (cond (is_at (key_cmp other) entry.0) (Some entry.1) (lookup (is_at (key_cmp other)) given))
      by more Less is none = refl
      by more Equal is none = cc
      by more Greater is none = rw (more none) (behind is (is_at (key_cmp other) key) refl)

  -- a key below all is below the new one too
  below_more : (low : Key) (given : Given) → key_cmp low key ≡ Less → Each (λ other. key_cmp low other ≡ Less) (keys_of given)
      → Each (λ other. key_cmp low other ≡ Less) (keys_of (insert_entry key_cmp given key row))
  below_more low [] less all = (less, tt)
  below_more low (entry ∷ given) less all = by (below_more low given less all.1) (key_cmp key entry.0)
    where
      by : Each (λ other. key_cmp low other ≡ Less) (keys_of (insert_entry key_cmp given key row)) → (o : Ordering)
          → Each (λ other. key_cmp low other ≡ Less) (keys_of (match_ordering o ((key, row) ∷ entry ∷ given) ((entry.0, row) ∷ given) (entry ∷ insert_entry key_cmp given key row)))
      by more Less = (less, all)
      by more Equal = all
      by more Greater = (all.0, more)

  -- what is below the first of rising keys is below each
  below_all : (low first : Key) (rest : List Key) → key_cmp low first ≡ Less → Each (λ other. key_cmp first other ≡ Less) rest → Each (λ other. key_cmp low other ≡ Less) rest
  below_all low first [] less all = tt
  below_all low first (next ∷ rest) less all = (key_order.trans low first next less all.0, below_all low first rest less all.1)

  -- the keys rise still
  pub rising-more : (given : Given) → IsStrictlySortedBy key_cmp (keys_of given) → IsStrictlySortedBy key_cmp (keys_of (insert_entry key_cmp given key row))
  unfolding IsStrictlySortedBy
  rising-more [] rising = (tt, tt)
  rising-more (entry ∷ given) rising = by (rising-more given rising.1) (key_cmp key entry.0) refl
    where
      by : IsStrictlySortedBy key_cmp (keys_of (insert_entry key_cmp given key row)) → (o : Ordering) → key_cmp key entry.0 ≡ o
          → IsStrictlySortedBy key_cmp (keys_of (match_ordering o ((key, row) ∷ entry ∷ given) ((entry.0, row) ∷ given) (entry ∷ insert_entry key_cmp given key row)))
      by more Less is = ((is, below_all key entry.0 (keys_of given) is rising.0), rising)
      by more Equal is = rising
      by more Greater is =
          let above : key_cmp entry.0 key ≡ Less = key_order.antisymm entry.0 key ∙ ap ordering_reverse is in
          (below_more entry.0 given above rising.0, more)

  -- what holds of each row behind its key, and of the new one
  pub each-more : (P : Key × Row → Type 0) (given : Given) → Each P given → P (key, row) → lookup (is_at (key_cmp key)) given ≡ None → Each P (insert_entry key_cmp given key row)
  each-more P [] all own none = (own, tt)
  each-more P (entry ∷ given) all own none = by (each-more P given all.1 own) (key_cmp key entry.0) none
    where
      by : (lookup (is_at (key_cmp key)) given ≡ None → Each P (insert_entry key_cmp given key row)) → (o : Ordering)
          → cond (is_eq o) (Some entry.1) (lookup (is_at (key_cmp key)) given) ≡ None
          → Each P (match_ordering o ((key, row) ∷ entry ∷ given) ((entry.0, row) ∷ given) (entry ∷ insert_entry key_cmp given key row))
      by more Less none = (own, all)
      by more Equal none = cc
      by more Greater none = (all.0, more none)

  -- there is one row more
  pub length-more : (given : Given) → lookup (is_at (key_cmp key)) given ≡ None → length (insert_entry key_cmp given key row) ≡ length given + 1
  length-more [] none = refl
  length-more (entry ∷ given) none = by (length-more given) (key_cmp key entry.0) none
    where
      by : (lookup (is_at (key_cmp key)) given ≡ None → length (insert_entry key_cmp given key row) ≡ length given + 1) → (o : Ordering)
          → cond (is_eq o) (Some entry.1) (lookup (is_at (key_cmp key)) given) ≡ None
          → length (match_ordering o ((key, row) ∷ entry ∷ given) ((entry.0, row) ∷ given) (entry ∷ insert_entry key_cmp given key row)) ≡ length (entry ∷ given) + 1
      by more Less none = omega arith
      by more Equal none = cc
      by more Greater none = let longer = more none in omega arith

-- under its own key a row is found
abbrev pub IsFound : Given → Key × Row → Type 0
IsFound given entry = lookup (is_at (key_cmp entry.0)) given ≡ Some entry.1

found_behind : (first : Key × Row) (rest some : Given) → Each (λ key. key_cmp first.0 key ≡ Less) (keys_of some) → Each (IsFound rest) some → Each (IsFound (first ∷ rest)) some
found_behind first rest [] above found = tt
found_behind first rest (entry ∷ some) above found =
    let apart : is_at (key_cmp entry.0) first.0 ≡ false = at_key entry.0 first.0 ∙ ap is_equal above.0 in
    (rw apart found.0, found_behind first rest some above.1 found.1)

pub found_given : (given : Given) → IsStrictlySortedBy key_cmp (keys_of given) → Each (IsFound given) given
unfolding IsStrictlySortedBy
found_given [] rising = tt
found_given (first ∷ rest) rising =
    let own : is_at (key_cmp first.0) first.0 ≡ true = ap is_eq (tied_itself key_order first.0) in
    (rw own refl, found_behind first rest rest rising.0 (found_given rest rising.1))

-- where no key is a key's, it isn't found
pub lookup-none : (key : Key) (given : Given) → list_any (λ (entry : Key × Row). is_equal (key_cmp entry.0 key)) given ≡ false → lookup (is_at (key_cmp key)) given ≡ None
lookup-none key [] none = refl
lookup-none key (entry ∷ given) none =
    let both = or_parts (is_equal (key_cmp entry.0 key)) (list_any (λ (entry : Key × Row). is_equal (key_cmp entry.0 key)) given) none in
    rw (at_key key entry.0, both.0) (lookup-none key given both.1)
