-- Changes of keys that differ, in rising order.
use Rattle.std.proofs.Common.{◌≡◌, refl, sym, ◌∙◌, ap, subst, List, [], ◌∷◌, ℕ, zero, suc, ◌<◌, ◌≤◌, length, get_or, Option, Some, None, arith}
use Rattle.std.specs.Prelude.{Bool, true, false, cond, find, map}
use Rattle.std.specs.Cmp.{IsTotalOrder}
use Rattle.std.specs.List.{AllByRecursion as Each, Contains, IsDistinct, sum_by}
use Rattle.std.specs.List.Sorted.{IsPermutation, IsSortedBy, IsStrictlySortedBy}
use Rattle.std.specs.Ordering.{is_eq, is_lt}
use Rattle.std.specs.declared.cmp.Ordering.{Ordering}
use Rattle.std.specs.declared.cmp.Ordering.TheVariants.{Less}
use Rattle.std.proofs.lemmas.Cmp.{tied_back, tied_itself}
use Rattle.std.proofs.lemmas.List.Elements.{All-from_recursion, recursion_from_All}
use Rattle.std.proofs.lemmas.List.Sorted.{All-permutation, Contains-permutation, ranks_by, sorted_far, sum_by-IsPermutation}
use Rattle.std.proofs.lemmas.List.Sums.{sum_by-cons}
use Rattle.page_model.specs.Rising.{IsRising}
use Rattle.page_model.proofs.Ordered.{below_from_above, equal_from, greater_from}
use Rattle.page_model.proofs.RisingLemmas.{each_map, each_mapped, each_weaker}

-- whether a change is of this key
abbrev pub is_of : {K C : Type 0} → (K → K → Ordering) → (C → K) → K → C → Bool
is_of cmp changed key change = is_eq (cmp (changed change) key)

-- nothing is found where all fail
pub find_none : {X : Type 0} (p : X → Bool) (xs : List X) → Each (λ x. p x ≡ false) xs → find p xs ≡ None
find_none p [] fails = refl
find_none p (x ∷ xs) fails = rw fails.0 (find_none p xs fails.1)

-- what is found is there, and passes; where nothing is found, all fail
found_there : {X : Type 0} (p : X → Bool) (xs : List X) (x : X) → find p xs ≡ Some x → Contains xs x × (p x ≡ true)
found_there p [] x is = cc
found_there p (y ∷ xs) x is = by (found_there p xs x) (p y) refl is
  where
    by : (find p xs ≡ Some x → Contains xs x × (p x ≡ true)) → (b : Bool) → p y ≡ b → cond b (Some y) (find p xs) ≡ Some x → Contains (y ∷ xs) x × (p x ≡ true)
    by more true passes here = let same : y ≡ x = cc in ((0, omega arith, same), subst (λ z. p z ≡ true) same passes)
    by more false fails there = let later = more there in ((suc later.0.0, omega arith, later.0.2), later.1)

none_found : {X : Type 0} (p : X → Bool) (xs : List X) → find p xs ≡ None → Each (λ x. p x ≡ false) xs
none_found p [] is = tt
none_found p (y ∷ xs) is = by (none_found p xs) (p y) refl is
  where
    by : (find p xs ≡ None → Each (λ x. p x ≡ false) xs) → (b : Bool) → p y ≡ b → cond b (Some y) (find p xs) ≡ None → (p y ≡ false) × Each (λ x. p x ≡ false) xs
    by more true passes none = let never : Some y ≡ None = none in cc
    by more false fails none = (fails, more none)

-- a key alone rises
pub few_rise : {K : Type 0} (cmp : K → K → Ordering) (keys : List K) → length keys ≤ 1 → IsStrictlySortedBy cmp keys
unfolding IsStrictlySortedBy
few_rise cmp [] few = tt
few_rise cmp (key ∷ []) few = (tt, tt)
few_rise cmp (key ∷ next ∷ keys) few = absurd (omega arith)

-- keys that rise differ
pub rising_differ : {K : Type 0} (cmp : K → K → Ordering) (keys : List K) → IsStrictlySortedBy cmp keys → IsDistinct (λ a b. is_eq (cmp a b)) keys
unfolding IsStrictlySortedBy IsDistinct
rising_differ cmp [] rising = tt
rising_differ cmp (key ∷ keys) rising = (each_weaker _ _ (λ later. ap is_eq) keys rising.0, rising_differ cmp keys rising.1)

module _ {C K : Type 0} (changed : C → K) {cmp : K → K → Ordering} (order : IsTotalOrder cmp) where
  -- no change behind the first is of its key
  pub none_later : (key : K) (change : C) (changes : List C) → Each (λ later. is_eq (cmp (changed change) (changed later)) ≡ false) changes → is_of cmp changed key change ≡ true → Each (λ later. is_of cmp changed key later ≡ false) changes
  none_later key change changes others here =
      each_weaker _ _ (λ later differs. by later differs (is_of cmp changed key later) refl) changes others
    where
      by : (later : C) → is_eq (cmp (changed change) (changed later)) ≡ false → (b : Bool) → is_of cmp changed key later ≡ b → is_of cmp changed key later ≡ false
      by later differs true is =
          let same = order.congr (changed change) key (changed later) (equal_from _ here) ∙ tied_back order (changed later) key (equal_from _ is) in
          let never : true ≡ false = sym (ap is_eq same) ∙ differs in
          cc
      by later differs false is = is

  -- one for a change of this key
  one : K → C → ℕ
  one key change = cond (is_of cmp changed key change) 1 0

  -- no change is of a key, or some is
  none_counted : (key : K) (changes : List C) → Each (λ change. is_of cmp changed key change ≡ false) changes → sum_by (one key) changes ≡ 0
  unfolding one
  none_counted key [] none = refl
  none_counted key (change ∷ changes) none =
      let here : one key change ≡ 0 = rw none.0 refl in
      omega (arith, sum_by-cons (one key) change changes, none_counted key changes none.1)

  not_one : (b : Bool) → cond b 1 0 ≤ 0 → b ≡ false
  not_one true few = absurd (omega arith)
  not_one false few = refl

  none_from_count : (key : K) (changes : List C) → sum_by (one key) changes ≤ 0 → Each (λ change. is_of cmp changed key change ≡ false) changes
  unfolding one
  none_from_count key [] few = tt
  none_from_count key (change ∷ changes) few =
      let split = sum_by-cons (one key) change changes in
      let here : one key change ≤ 0 = omega (arith, split) in
      let others : sum_by (one key) changes ≤ 0 = omega (arith, split) in
      (not_one (is_of cmp changed key change) here, none_from_count key changes others)

  -- of changes whose keys differ at most one is of a key
  few_counted : (key : K) (changes : List C) → IsDistinct (λ a b. is_eq (cmp a b)) (map changed changes) → sum_by (one key) changes ≤ 1
  unfolding IsDistinct one
  few_counted key [] differ = omega arith
  few_counted key (change ∷ changes) differ = by (is_of cmp changed key change) refl (few_counted key changes differ.1)
    where
      by : (b : Bool) → is_of cmp changed key change ≡ b → sum_by (one key) changes ≤ 1 → sum_by (one key) (change ∷ changes) ≤ 1
      by true here few =
          let this : one key change ≡ 1 = rw here refl in
          omega (arith, sum_by-cons (one key) change changes, none_counted key changes (none_later key change changes (each_map _ changed changes differ.0) here))
      by false other few =
          let this : one key change ≡ 0 = rw other refl in
          omega (arith, sum_by-cons (one key) change changes)

  -- so changes that don't fall rise
  rise_from_few : (changes : List C) → ((i j : ℕ) (d : C) → i ≤ j → j < length changes → is_lt (cmp (changed (get_or changes j d)) (changed (get_or changes i d))) ≡ false)
      → ((key : K) → sum_by (one key) changes ≤ 1) → IsRising changed cmp changes
  unfolding IsStrictlySortedBy one
  rise_from_few [] up few = tt
  rise_from_few (change ∷ changes) up few =
      let this : one (changed change) change ≡ 1 = rw (tied_itself order (changed change)) refl in
      let others : sum_by (one (changed change)) changes ≤ 0 = omega (arith, sum_by-cons (one (changed change)) change changes, few (changed change)) in
      let differ = All-from_recursion _ changes (none_from_count (changed change) changes others) in (
        each_mapped _ changed changes (recursion_from_All (λ later. cmp (changed change) (changed later) ≡ Less) changes
            (λ k d within. below_from_above order _ _ (greater_from _ (up 0 (suc k) d (omega arith) (omega arith)) (differ k d within)))),
        rise_from_few changes (λ i j d before within. up (suc i) (suc j) d (omega arith) (omega arith)) (λ key. omega (arith, sum_by-cons (one key) change changes, few key)),
      )

  -- changes of keys that differ rise where they are sorted
  pub rising_sorted : (given sorted : List C) → IsDistinct (λ a b. is_eq (cmp a b)) (map changed given) → IsPermutation given sorted
      → IsSortedBy (λ a b. is_lt (cmp (changed a) (changed b))) sorted → IsRising changed cmp sorted
  rising_sorted given sorted differ moved up =
      rise_from_few sorted (sorted_far (λ a b. is_lt (cmp (changed a) (changed b))) (ranks_by order changed) sorted up)
      (λ key. omega (arith, sum_by-IsPermutation (one key) given sorted moved, few_counted key given differ))

  -- the change of a key that is there is found
  found_only : (key : K) (changes : List C) (change : C) (k : ℕ) → IsDistinct (λ a b. is_eq (cmp a b)) (map changed changes) → k < length changes → get_or changes k change ≡ change → is_of cmp changed key change ≡ true
      → find (is_of cmp changed key) changes ≡ Some change
  unfolding IsDistinct
  found_only key [] change k differ within is here = absurd (omega arith)
  found_only key (first ∷ changes) change zero differ within is here = rw (ap (is_of cmp changed key) is ∙ here) (ap Some is)
  found_only key (first ∷ changes) change (suc k) differ within is here = by (is_of cmp changed key first) refl (found_only key changes change k differ.1 (omega arith) is here)
    where
      by : (b : Bool) → is_of cmp changed key first ≡ b → find (is_of cmp changed key) changes ≡ Some change → cond b (Some first) (find (is_of cmp changed key) changes) ≡ Some change
      by true there more =
          let none = find_none (is_of cmp changed key) changes (none_later key first changes (each_map _ changed changes differ.0) there) in
          let never : None ≡ Some change = sym none ∙ more in
          cc
      by false other more = more

  -- the change of a key is the same in any order
  pub found_permuted : (key : K) (given others : List C) → IsDistinct (λ a b. is_eq (cmp a b)) (map changed others) → IsPermutation given others
      → find (is_of cmp changed key) others ≡ find (is_of cmp changed key) given
  found_permuted key given others differ moved = by (find (is_of cmp changed key) given) refl
    where
      by : (found : Option C) → find (is_of cmp changed key) given ≡ found → find (is_of cmp changed key) others ≡ found
      by None none =
          let fails : C → Type 0 = λ change. is_of cmp changed key change ≡ false in
          find_none (is_of cmp changed key) others (recursion_from_All fails others (All-permutation fails given others moved (All-from_recursion fails given (none_found (is_of cmp changed key) given none))))
      by (Some change) is =
          let here = found_there (is_of cmp changed key) given change is in
          let there = Contains-permutation given others change moved here.0 in
          found_only key others change there.0 differ there.1 there.2 here.1
