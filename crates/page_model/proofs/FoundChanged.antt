-- Looking an item up after changes.
use Rattle.std.proofs.Common.{◌≡◌, refl, sym, ◌∙◌, ap, List, [], ◌∷◌, ◌++◌, Option, Some, None}
use Rattle.std.specs.Prelude.{Bool, true, false, cond, find, map, IfSome}
use Rattle.std.specs.Cmp.{IsTotalOrder}
use Rattle.std.specs.List.{IsDistinct, filter}
use Rattle.std.specs.Option.{option_map_or, option_or, option_to_list}
use Rattle.std.specs.Ordering.{is_eq, is_gt, is_lt}
use Rattle.std.specs.declared.cmp.Ordering.{Ordering}
use Rattle.std.specs.declared.cmp.Ordering.TheVariants.{Less, Equal, Greater}
use Rattle.std.proofs.lemmas.Cmp.{tied_back}
use Rattle.std.proofs.lemmas.List.Folds.{find-append}
use Rattle.page_model.specs.Changed.{AreKeyed, above_key, below_key, with_change, with_changes}
use Rattle.page_model.specs.Found.{found}
use Rattle.page_model.proofs.Ordered.{above_from_below, below_from_above, equal_from}
use Rattle.page_model.proofs.RisingLemmas.{each_map}
use Rattle.page_model.proofs.InOrder.{find_none, is_of, none_later}

module _ {X : Type 0} (p q : X → Bool) where
  -- what is sought isn't found among what fails
  find_missed : (none : (x : X) → q x ≡ true → p x ≡ false) (xs : List X) → find p (filter q xs) ≡ None
  find_missed none [] = refl
  find_missed none (x ∷ xs) = by (find_missed none xs) (q x) refl
    where
      by : find p (filter q xs) ≡ None → (b : Bool) → q x ≡ b → find p (cond b (x ∷ filter q xs) (filter q xs)) ≡ None
      by more true passes = rw (none x passes) more
      by more false fails = more

  -- and is found among what passes
  find_passing : (all : (x : X) → p x ≡ true → q x ≡ true) (xs : List X) → find p (filter q xs) ≡ find p xs
  find_passing all [] = refl
  find_passing all (x ∷ xs) = by (find_passing all xs) (q x) (p x) refl refl
    where
      by : find p (filter q xs) ≡ find p xs → (b c : Bool) → q x ≡ b → p x ≡ c → find p (cond b (x ∷ filter q xs) (filter q xs)) ≡ cond c (Some x) (find p xs)
      by more true true passes sought = rw sought refl
      by more true false passes other = rw other more
      by more false true fails sought = let never : true ≡ false = sym (all x sought) ∙ fails in cc
      by more false false fails other = more

module _ {T K C : Type 0} (key_of : T → K) {cmp : K → K → Ordering} (order : IsTotalOrder cmp) (changed : C → K) (put : C → Option T) where
  -- the item that is put is found by the key that the change is of
  none_either : (b : Bool) (item : Option T) → item ≡ None → None ≡ cond b item None
  none_either true item is = sym is
  none_either false item is = refl

  put_found : (key : K) (item : Option T) (c : K) → IfSome item (λ x. key_of x ≡ c) → found key_of cmp key (option_to_list item) ≡ cond (is_eq (cmp c key)) item None
  unfolding found
  put_found key None c keyed = none_either (is_eq (cmp c key)) None refl
  put_found key (Some x) c keyed = rw keyed refl

  -- below the key of a change, and above it
  found_parts : (key c : K) (item : Option T) (xs : List T)
      → found key_of cmp key (with_change key_of cmp c item xs)
      ≡ option_or (found key_of cmp key (below_key key_of cmp c xs)) (option_or (found key_of cmp key (option_to_list item)) (found key_of cmp key (above_key key_of cmp c xs)))
  unfolding found with_change
  found_parts key c item xs =
      let has : T → Bool = λ x. is_eq (cmp (key_of x) key) in
      find-append has (below_key key_of cmp c xs) (option_to_list item ++ above_key key_of cmp c xs)
      ∙ ap (option_or (find has (below_key key_of cmp c xs))) (find-append has (option_to_list item) (above_key key_of cmp c xs))

  -- an item that has a key stands to another as that key does
  stands : (key c : K) (x : T) → is_eq (cmp (key_of x) key) ≡ true → cmp (key_of x) c ≡ cmp key c
  stands key c x has = order.congr (key_of x) key c (equal_from _ has)

  -- no item of a key is below or above it
  not_among : (key c : K) (test : Ordering → Bool) → test (cmp key c) ≡ false → (x : T) → test (cmp (key_of x) c) ≡ true → is_eq (cmp (key_of x) key) ≡ false
  not_among key c test fails x passes = by (is_eq (cmp (key_of x) key)) refl
    where
      by : (b : Bool) → is_eq (cmp (key_of x) key) ≡ b → is_eq (cmp (key_of x) key) ≡ false
      by true has = let never : true ≡ false = sym passes ∙ (ap test (stands key c x has) ∙ fails) in cc
      by false other = other

  missed : (key c : K) (test : Ordering → Bool) (xs : List T) → test (cmp key c) ≡ false → found key_of cmp key (filter (λ x. test (cmp (key_of x) c)) xs) ≡ None
  unfolding found
  missed key c test xs fails = find_missed (λ x. is_eq (cmp (key_of x) key)) (λ x. test (cmp (key_of x) c)) (not_among key c test fails) xs

  kept : (key c : K) (test : Ordering → Bool) (xs : List T) → test (cmp key c) ≡ true → found key_of cmp key (filter (λ x. test (cmp (key_of x) c)) xs) ≡ found key_of cmp key xs
  unfolding found
  kept key c test xs passes = find_passing (λ x. is_eq (cmp (key_of x) key)) (λ x. test (cmp (key_of x) c)) (λ x has. ap test (stands key c x has) ∙ passes) xs

  -- after a change its key has the item that is put, and each other key the item that it had
  found_by : (key c : K) (item : Option T) (xs : List T) → IfSome item (λ x. key_of x ≡ c) → (o : Ordering) → cmp c key ≡ o
      → found key_of cmp key (with_change key_of cmp c item xs) ≡ cond (is_eq o) item (found key_of cmp key xs)
  found_by key c item xs keyed Less is =
      let above = above_from_below order c key is in
      let here : found key_of cmp key (option_to_list item) ≡ None = put_found key item c keyed ∙ rw is refl in
      found_parts key c item xs ∙ rw (missed key c is_lt xs (ap is_lt above), here) (kept key c is_gt xs (ap is_gt above))
  found_by key c item xs keyed Equal is =
      let tied = tied_back order c key is in
      let here : found key_of cmp key (option_to_list item) ≡ item = put_found key item c keyed ∙ rw is refl in
      found_parts key c item xs ∙ rw (missed key c is_lt xs (ap is_lt tied), here, missed key c is_gt xs (ap is_gt tied)) (or_none item)
    where
      or_none : (o : Option T) → option_or o None ≡ o
      or_none None = refl
      or_none (Some x) = refl
  found_by key c item xs keyed Greater is =
      let below = below_from_above order c key is in
      let here : found key_of cmp key (option_to_list item) ≡ None = put_found key item c keyed ∙ rw is refl in
      found_parts key c item xs ∙ rw (kept key c is_lt xs (ap is_lt below), here, missed key c is_gt xs (ap is_gt below)) (or_none (found key_of cmp key xs))
    where
      or_none : (o : Option T) → option_or o None ≡ o
      or_none None = refl
      or_none (Some x) = refl

  pub found_changed : (key c : K) (item : Option T) (xs : List T) → IfSome item (λ x. key_of x ≡ c)
      → found key_of cmp key (with_change key_of cmp c item xs) ≡ cond (is_eq (cmp c key)) item (found key_of cmp key xs)
  found_changed key c item xs keyed = found_by key c item xs keyed (cmp c key) refl

  -- after changes of keys that differ a key has the item that its change puts, or the one that it had
  pub found_with_changes : (key : K) (changes : List C) (xs : List T) → AreKeyed key_of changed put changes → IsDistinct (λ a b. is_eq (cmp a b)) (map changed changes)
      → found key_of cmp key (with_changes key_of cmp changed put changes xs) ≡ option_map_or put (find (is_of cmp changed key) changes) (found key_of cmp key xs)
  unfolding with_changes IsDistinct
  found_with_changes key [] xs keyed differ = refl
  found_with_changes key (change ∷ changes) xs keyed differ =
      found_with_changes key changes (with_change key_of cmp (changed change) (put change) xs) keyed.1 differ.1
      ∙ (ap (option_map_or put (find (is_of cmp changed key) changes)) (found_changed key (changed change) (put change) xs keyed.0)
      ∙ by (is_of cmp changed key change) refl)
    where
      by : (b : Bool) → is_of cmp changed key change ≡ b
          → option_map_or put (find (is_of cmp changed key) changes) (cond b (put change) (found key_of cmp key xs)) ≡ option_map_or put (cond b (Some change) (find (is_of cmp changed key) changes)) (found key_of cmp key xs)
      by true here = rw (find_none (is_of cmp changed key) changes (none_later changed order key change changes (each_map _ changed changes differ.0) here)) refl
      by false other = refl
