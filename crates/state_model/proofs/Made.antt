-- What is made of each of some items by their keys, where anything is.
use Rattle.std.proofs.Common.{◌≡◌, refl, sym, ◌∙◌, ap, subst, List, [], ◌∷◌, filter_map}
use Rattle.std.specs.Prelude.{Bool, true, false, cond, Option, Some, None, IfSome}
use Rattle.std.specs.List.{AllByRecursion as Each, cons_option}
use Rattle.std.specs.List.Sorted.{IsStrictlySortedBy}
use Rattle.std.specs.Option.{option_and_then}
use Rattle.std.specs.Ordering.{is_eq}
use Rattle.std.specs.declared.cmp.Ordering.TheVariants.{Less}
use Rattle.own_base.specs.Key.{key_cmp}
use Rattle.own_base.specs.declared.value.Key.{Key}
use Rattle.own_model.proofs.KeyOrder.{key_order}
use Rattle.page_model.specs.Found.{found}
use Rattle.page_model.specs.Rising.{IsRising}
use Rattle.page_model.proofs.Ordered.{above_from_below, equal_from}
use Rattle.page_model.proofs.RisingLemmas.{each_mapped, each_weaker, rising_behind, rising_tail}

module _ {T C : Type 0} (key_of : T → Key) (changed : C → Key) (make : T → Option C) (keeps : (x : T) → IfSome (make x) (λ made. changed made ≡ key_of x)) where
  each_made : (key : Key) (xs : List T) → Each (λ x. key_cmp key (key_of x) ≡ Less) xs → Each (λ made. key_cmp key (changed made) ≡ Less) (filter_map make xs)
  each_made key [] above = tt
  each_made key (x ∷ xs) above = by (make x) (keeps x) (each_made key xs above.1)
    where
      by : (o : Option C) → IfSome o (λ made. changed made ≡ key_of x) → Each (λ made. key_cmp key (changed made) ≡ Less) (filter_map make xs) → Each (λ made. key_cmp key (changed made) ≡ Less) (cons_option o (filter_map make xs))
      by None same more = more
      by (Some made) same more = (subst (λ k. key_cmp key k ≡ Less) (sym same) above.0, more)

  -- it rises as the items do
  pub rising_made : (xs : List T) → IsRising key_of key_cmp xs → IsRising changed key_cmp (filter_map make xs)
  unfolding IsStrictlySortedBy
  rising_made [] rising = tt
  rising_made (x ∷ xs) rising = by (make x) (keeps x) (each_made (key_of x) xs (rising_behind key_of key_cmp x xs rising)) (rising_made xs (rising_tail key_of key_cmp x xs rising))
    where
      by : (o : Option C) → IfSome o (λ made. changed made ≡ key_of x) → Each (λ made. key_cmp (key_of x) (changed made) ≡ Less) (filter_map make xs) → IsRising changed key_cmp (filter_map make xs) → IsRising changed key_cmp (cons_option o (filter_map make xs))
      by None same above more = more
      by (Some made) same above more = (each_mapped _ changed (filter_map make xs) (subst (λ k. Each (λ one. key_cmp k (changed one) ≡ Less) (filter_map make xs)) (sym same) above), more)

  none_above : (key : Key) (xs : List T) → Each (λ x. key_cmp key (key_of x) ≡ Less) xs → found key_of key_cmp key xs ≡ None
  unfolding found
  none_above key [] above = refl
  none_above key (x ∷ xs) above = rw (above_from_below key_order key (key_of x) above.0) (none_above key xs above.1)

  -- what is found is made of what is found
  pub found_made : (key : Key) (xs : List T) → IsRising key_of key_cmp xs → found changed key_cmp key (filter_map make xs) ≡ option_and_then make (found key_of key_cmp key xs)
  unfolding found
  found_made key [] rising = refl
  found_made key (x ∷ xs) rising = by (is_eq (key_cmp (key_of x) key)) refl (make x) refl (keeps x) (found_made key xs (rising_tail key_of key_cmp x xs rising))
    where
      behind : is_eq (key_cmp (key_of x) key) ≡ true → found key_of key_cmp key xs ≡ None
      behind here = none_above key xs (each_weaker _ _ (λ y less. sym (key_order.congr (key_of x) key (key_of y) (equal_from _ here)) ∙ less) xs (rising_behind key_of key_cmp x xs rising))

      by : (b : Bool) → is_eq (key_cmp (key_of x) key) ≡ b → (o : Option C) → make x ≡ o → IfSome o (λ made. changed made ≡ key_of x)
          → found changed key_cmp key (filter_map make xs) ≡ option_and_then make (found key_of key_cmp key xs)
          → found changed key_cmp key (cons_option o (filter_map make xs)) ≡ option_and_then make (cond b (Some x) (found key_of key_cmp key xs))
      by true here None is same more = more ∙ (ap (option_and_then make) (behind here) ∙ sym is)
      by true here (Some made) is same more =
          let test : is_eq (key_cmp (changed made) key) ≡ true = ap (λ k. is_eq (key_cmp k key)) same ∙ here in
          rw test (sym is)
      by false other None is same more = more
      by false other (Some made) is same more =
          let test : is_eq (key_cmp (changed made) key) ≡ false = ap (λ k. is_eq (key_cmp k key)) same ∙ other in
          rw test more

-- what is found has the key
pub found_has : {T : Type 0} (key_of : T → Key) (key : Key) (xs : List T) (x : T) → found key_of key_cmp key xs ≡ Some x → is_eq (key_cmp (key_of x) key) ≡ true
unfolding found
found_has key_of key [] x is = cc
found_has key_of key (y ∷ xs) x is = by (is_eq (key_cmp (key_of y) key)) refl (found_has key_of key xs x) is
  where
    by : (b : Bool) → is_eq (key_cmp (key_of y) key) ≡ b → (found key_of key_cmp key xs ≡ Some x → is_eq (key_cmp (key_of x) key) ≡ true) → cond b (Some y) (found key_of key_cmp key xs) ≡ Some x → is_eq (key_cmp (key_of x) key) ≡ true
    by true has more here = let same : y ≡ x = cc in subst (λ z. is_eq (key_cmp (key_of z) key) ≡ true) same has
    by false other more there = more there

-- what holds of whatever is made holds of all that is made
pub all-filter_map : {X Y : Type 0} (P : Y → Type 0) (make : X → Option Y) → ((x : X) → IfSome (make x) P) → (xs : List X) → Each P (filter_map make xs)
all-filter_map P make holds [] = tt
all-filter_map {X} {Y} P make holds (x ∷ xs) = by (make x) (holds x) (all-filter_map P make holds xs)
  where
    by : (made : Option Y) → IfSome made P → Each P (filter_map make xs) → Each P (cons_option made (filter_map make xs))
    by None is more = more
    by (Some y) is more = (is, more)
