-- Items whose keys rise are told by their look-ups.
use Rattle.std.proofs.Common.{◌≡◌, refl, sym, ◌∙◌, subst, List, [], ◌∷◌, Some, None}
use Rattle.std.specs.Prelude.{Bool, true, false}
use Rattle.std.specs.Cmp.{IsTotalOrder}
use Rattle.std.specs.List.{AllByRecursion as Each}
use Rattle.std.specs.Ordering.{is_eq}
use Rattle.std.specs.declared.cmp.Ordering.{Ordering}
use Rattle.std.specs.declared.cmp.Ordering.TheVariants.{Less, Equal, Greater}
use Rattle.std.proofs.lemmas.Cmp.{tied_back, tied_itself}
use Rattle.page_model.specs.Found.{found}
use Rattle.page_model.specs.Rising.{IsRising}
use Rattle.page_model.proofs.Ordered.{above_from_below, below_from_above, equal_from}
use Rattle.page_model.proofs.RisingLemmas.{each_weaker, rising_behind, rising_tail}

module _ {T K : Type 0} (key_of : T → K) {cmp : K → K → Ordering} (order : IsTotalOrder cmp) where
  -- no item above a key has it
  found_above : (key : K) (xs : List T) → Each (λ x. cmp key (key_of x) ≡ Less) xs → found key_of cmp key xs ≡ None
  unfolding found
  found_above key [] above = refl
  found_above key (x ∷ xs) above = rw (above_from_below order key (key_of x) above.0) (found_above key xs above.1)

  -- the first item has the key, or not
  found_first : (key : K) (x : T) (xs : List T) → cmp (key_of x) key ≡ Equal → found key_of cmp key (x ∷ xs) ≡ Some x
  unfolding found
  found_first key x xs equal = rw equal refl

  found_later : (key : K) (x : T) (xs : List T) → is_eq (cmp (key_of x) key) ≡ false → found key_of cmp key (x ∷ xs) ≡ found key_of cmp key xs
  unfolding found
  found_later key x xs other = rw other refl

  -- all items are above one below the first
  all_above : (key : K) (y : T) (ys : List T) → cmp key (key_of y) ≡ Less → IsRising key_of cmp (y ∷ ys) → Each (λ z. cmp key (key_of z) ≡ Less) (y ∷ ys)
  all_above key y ys below rising = (below, each_weaker _ _ (λ z. order.trans key (key_of y) (key_of z) below) ys (rising_behind key_of cmp y ys rising))

  -- no item behind the first has its key
  none_behind : (key : K) (x : T) (xs : List T) → cmp (key_of x) key ≡ Equal → IsRising key_of cmp (x ∷ xs) → found key_of cmp key xs ≡ None
  none_behind key x xs equal rising =
      found_above key xs (each_weaker _ _ (λ z less. sym (order.congr (key_of x) key (key_of z) equal) ∙ less) xs (rising_behind key_of cmp x xs rising))

  -- two lists whose keys rise are one where each key has the same item in both
  pub same_found : (xs ys : List T) → IsRising key_of cmp xs → IsRising key_of cmp ys → ((key : K) → found key_of cmp key xs ≡ found key_of cmp key ys) → xs ≡ ys
  same_found [] [] rising rises same = refl
  same_found [] (y ∷ ys) rising rises same =
      let none : found key_of cmp (key_of y) [] ≡ None = found_above (key_of y) [] tt in
      let never : None ≡ Some y = sym none ∙ (same (key_of y) ∙ found_first (key_of y) y ys (tied_itself order (key_of y))) in
      cc
  same_found (x ∷ xs) [] rising rises same =
      let none : found key_of cmp (key_of x) [] ≡ None = found_above (key_of x) [] tt in
      let never : Some x ≡ None = sym (found_first (key_of x) x xs (tied_itself order (key_of x))) ∙ (same (key_of x) ∙ none) in
      cc
  same_found (x ∷ xs) (y ∷ ys) rising rises same =
      by (same_found xs ys (rising_tail key_of cmp x xs rising) (rising_tail key_of cmp y ys rises)) (cmp (key_of x) (key_of y)) refl
    where
      tails : x ≡ y → (key : K) → (b : Bool) → is_eq (cmp (key_of x) key) ≡ b → found key_of cmp key xs ≡ found key_of cmp key ys
      tails is key true equal =
          let here : cmp (key_of x) key ≡ Equal = equal_from _ equal in
          none_behind key x xs here rising ∙ sym (none_behind key y ys (subst (λ z. cmp (key_of z) key ≡ Equal) is here) rises)
      tails is key false other =
          sym (found_later key x xs other) ∙ (same key ∙ found_later key y ys (subst (λ z. is_eq (cmp (key_of z) key) ≡ false) is other))

      by : (((key : K) → found key_of cmp key xs ≡ found key_of cmp key ys) → xs ≡ ys) → (o : Ordering) → cmp (key_of x) (key_of y) ≡ o → x ∷ xs ≡ y ∷ ys
      by more Less below =
          let never : Some x ≡ None = sym (found_first (key_of x) x xs (tied_itself order (key_of x))) ∙ (same (key_of x) ∙ found_above (key_of x) (y ∷ ys) (all_above (key_of x) y ys below rises)) in
          cc
      by more Equal equal =
          let here : Some x ≡ Some y = sym (found_first (key_of x) x xs (tied_itself order (key_of x))) ∙ (same (key_of x) ∙ found_first (key_of x) y ys (tied_back order (key_of x) (key_of y) equal)) in
          let is : x ≡ y = cc in
          let others : xs ≡ ys = more (λ key. tails is key (is_eq (cmp (key_of x) key)) refl) in
          cc
      by more Greater above =
          let below = below_from_above order (key_of x) (key_of y) above in
          let never : None ≡ Some y = sym (found_above (key_of y) (x ∷ xs) (all_above (key_of y) x xs below rising)) ∙ (same (key_of y) ∙ found_first (key_of y) y ys (tied_itself order (key_of y))) in
          cc
