-- What is told of keys that rise, a key at a time, is told by the keys of which anything is told, whatever others there are.
use Rattle.std.proofs.Common.{◌≡◌, ℕ, zero, suc, ◌+◌, ◌≤◌, List, [], ◌∷◌, length, false, refl, ap, sym, subst, ◌∙◌, arith}
use Rattle.std.specs.Prelude.{Option, None, Some, filter_map}
use Rattle.std.specs.List.{AllByRecursion, cons_option}
use Rattle.std.specs.List.Sorted.{IsStrictlySortedBy}
use Rattle.std.specs.declared.cmp.Ordering.{Ordering}
use Rattle.std.specs.declared.cmp.Ordering.TheVariants.{Less, Equal, Greater}
use Rattle.std.specs.Ordering.{ordering_reverse}
use Rattle.own_base.specs.Key.{key_cmp}
use Rattle.own_base.specs.declared.value.Key.{Key}
use Rattle.own_model.specs.Stored.{is_equal}
use Rattle.own_model.proofs.KeyOrder.{key_order}
use Rattle.schema_model.proofs.Places.{all-weaker}
use Rattle.subject_model.proofs.NamedLemmas.{one_key}

-- above a key, or anywhere
abbrev pub IsAbove : Option Key → Key → Type 0
IsAbove None key = Unit {0}
IsAbove (Some low) key = key_cmp low key ≡ Less

above_then : (low : Option Key) (between key : Key) → IsAbove low between → key_cmp between key ≡ Less → IsAbove low key
above_then None between key above less = tt
above_then (Some low) between key above less = key_order.trans low between key above less

-- none of some keys is this one
abbrev pub IsNotAmong : List Key → Key → Type 0
IsNotAmong keys key = AllByRecursion (λ own. is_equal (key_cmp own key) ≡ false) keys

not_behind : (key : Key) (keys : List Key) → AllByRecursion (λ own. key_cmp key own ≡ Less) keys → IsNotAmong keys key
not_behind key = all-weaker (λ own. key_cmp key own ≡ Less) (λ own. is_equal (key_cmp own key) ≡ false)
    (λ own less. ap is_equal (key_order.antisymm own key ∙ ap ordering_reverse less))

-- a lesser key stands before all that rise
before_all : (first other : Key) (others : List Key) → key_cmp first other ≡ Less → IsStrictlySortedBy key_cmp (other ∷ others)
    → AllByRecursion (λ own. key_cmp first own ≡ Less) (other ∷ others)
unfolding IsStrictlySortedBy
before_all first other others less rising =
    (less, all-weaker (λ own. key_cmp other own ≡ Less) (λ own. key_cmp first own ≡ Less) (λ own behind. key_order.trans first other own less behind) others rising.0)

module _ {Y : Type 0} where
  -- of keys above one, nothing is told of those that aren't among some
  abbrev pub TellsOf : Option Key → (Key → Option Y) → List Key → Type 0
  TellsOf low f keys = (key : Key) → IsAbove low key → IsNotAmong keys key → f key ≡ None

  -- two lists of keys that rise above one, and what is told of each
  pub record AreTold (f g : Key → Option Y) (low : Option Key) (keys others : List Key) : Type 0 where
    pub rising : IsStrictlySortedBy key_cmp keys
    pub rising_others : IsStrictlySortedBy key_cmp others
    pub above : AllByRecursion (IsAbove low) keys
    pub above_others : AllByRecursion (IsAbove low) others
    pub tells : TellsOf low f keys
    pub tells_others : TellsOf low g others

  turned : (f g : Key → Option Y) (low : Option Key) (keys others : List Key) → AreTold f g low keys others → AreTold g f low others keys
  turned f g low keys others are = record {
    rising = are.rising_others;
    rising_others = are.rising;
    above = are.above_others;
    above_others = are.above;
    tells = are.tells_others;
    tells_others = are.tells;
  }

  -- behind the first of some keys
  tells_rest : (f : Key → Option Y) (low : Option Key) (first : Key) (rest : List Key) → IsAbove low first → TellsOf low f (first ∷ rest) → TellsOf (Some first) f rest
  tells_rest f low first rest above tells key behind none = tells key (above_then low first key above behind) (ap is_equal behind, none)

  tells_higher : (f : Key → Option Y) (low : Option Key) (first : Key) (keys : List Key) → IsAbove low first → TellsOf low f keys → TellsOf (Some first) f keys
  tells_higher f low first keys above tells key behind none = tells key (above_then low first key above behind) none

  -- of the first of some keys nothing is reported where it stands before all others
  skipped : (f g : Key → Option Y) → ((key : Key) → f key ≡ g key) → (low : Option Key) (first : Key) (rest others : List Key) → AreTold f g low (first ∷ rest) others
      → AllByRecursion (λ own. key_cmp first own ≡ Less) others → filter_map f (first ∷ rest) ≡ filter_map f rest
  skipped f g same low first rest others are before =
      let none : f first ≡ None = same first ∙ are.tells_others first are.above.0 (not_behind first others before) in
      rw none refl

  told_behind : (f g : Key → Option Y) (low : Option Key) (first : Key) (rest others : List Key) → AreTold f g low (first ∷ rest) others
      → AllByRecursion (λ own. key_cmp first own ≡ Less) others → AreTold f g (Some first) rest others
  unfolding IsStrictlySortedBy
  told_behind f g low first rest others are before = record {
    rising = are.rising.1;
    rising_others = are.rising_others;
    above = are.rising.0;
    above_others = before;
    tells = tells_rest f low first rest are.above.0 are.tells;
    tells_others = tells_higher g low first others are.above.0 are.tells_others;
  }

  told_both : (f g : Key → Option Y) (low : Option Key) (first : Key) (rest others : List Key) → AreTold f g low (first ∷ rest) (first ∷ others)
      → AreTold f g (Some first) rest others
  unfolding IsStrictlySortedBy
  told_both f g low first rest others are = record {
    rising = are.rising.1;
    rising_others = are.rising_others.1;
    above = are.rising.0;
    above_others = are.rising_others.0;
    tells = tells_rest f low first rest are.above.0 are.tells;
    tells_others = tells_rest g low first others are.above.0 are.tells_others;
  }

  module _ (f g : Key → Option Y) (same : (key : Key) → f key ≡ g key) where
    abbrev Merges : ℕ → Type 0
    Merges many = (low : Option Key) (keys others : List Key) → length keys + length others ≤ many → AreTold f g low keys others → filter_map f keys ≡ filter_map g others

    left_first : (many : ℕ) → Merges many → (low : Option Key) (first : Key) (rest others : List Key) → length rest + length others ≤ many
        → AreTold f g low (first ∷ rest) others → AllByRecursion (λ own. key_cmp first own ≡ Less) others → filter_map f (first ∷ rest) ≡ filter_map g others
    left_first many more low first rest others long are before =
        skipped f g same low first rest others are before ∙ more (Some first) rest others long (told_behind f g low first rest others are before)

    right_first : (many : ℕ) → Merges many → (low : Option Key) (keys : List Key) (first : Key) (rest : List Key) → length keys + length rest ≤ many
        → AreTold f g low keys (first ∷ rest) → AllByRecursion (λ own. key_cmp first own ≡ Less) keys → filter_map f keys ≡ filter_map g (first ∷ rest)
    right_first many more low keys first rest long are before =
        let back = turned f g low keys (first ∷ rest) are in
        let behind = turned g f (Some first) rest keys (told_behind g f low first rest keys back before) in
        more (Some first) keys rest long behind ∙ sym (skipped g f (λ key. sym (same key)) low first rest keys back before)

    both_first : (many : ℕ) → Merges many → (low : Option Key) (first other : Key) (rest others : List Key) → length rest + length others ≤ many
        → AreTold f g low (first ∷ rest) (other ∷ others) → first ≡ other → filter_map f (first ∷ rest) ≡ filter_map g (other ∷ others)
    both_first many more low first other rest others long are one =
        let told = told_both f g low first rest others (subst (λ key. AreTold f g low (first ∷ rest) (key ∷ others)) (sym one) are) in
        ap (λ found. cons_option found (filter_map f rest)) (same first ∙ ap g one) ∙ ap (λ kept. cons_option (g other) kept) (more (Some first) rest others long told)

    merge_step : (many : ℕ) → Merges many → (low : Option Key) (first other : Key) (rest others : List Key) → length rest + length others + 1 ≤ many
        → AreTold f g low (first ∷ rest) (other ∷ others) → (o : Ordering) → key_cmp first other ≡ o → filter_map f (first ∷ rest) ≡ filter_map g (other ∷ others)
    merge_step many more low first other rest others long are Less is =
        left_first many more low first rest (other ∷ others) (omega arith) are (before_all first other others is are.rising_others)
    merge_step many more low first other rest others long are Equal is =
        both_first many more low first other rest others (omega arith) are (one_key first other (ap is_equal is))
    merge_step many more low first other rest others long are Greater is =
        let less : key_cmp other first ≡ Less = key_order.antisymm other first ∙ ap ordering_reverse is in
        right_first many more low (first ∷ rest) other others (omega arith) are (before_all other first rest less are.rising)

    merge : (many : ℕ) → Merges many
    merge many low [] [] long are = refl
    merge zero low [] (other ∷ others) long are = absurd (omega arith)
    merge zero low (first ∷ rest) others long are = absurd (omega arith)
    merge (suc many) low [] (other ∷ others) long are = right_first many (merge many) low [] other others (omega arith) are tt
    merge (suc many) low (first ∷ rest) [] long are = left_first many (merge many) low first rest [] (omega arith) are tt
    merge (suc many) low (first ∷ rest) (other ∷ others) long are = merge_step many (merge many) low first other rest others (omega arith) are _ refl

    -- two lists of keys that rise give the same, if each has all keys of which anything is told
    pub kept_by_keys : (keys others : List Key) → IsStrictlySortedBy key_cmp keys → IsStrictlySortedBy key_cmp others
        → ((key : Key) → IsNotAmong keys key → f key ≡ None) → ((key : Key) → IsNotAmong others key → g key ≡ None) → filter_map f keys ≡ filter_map g others
    kept_by_keys keys others rising rising_others tells tells_others =
        merge (length keys + length others) None keys others (omega arith) (record {
          rising = rising;
          rising_others = rising_others;
          above = anywhere keys;
          above_others = anywhere others;
          tells = λ key above none. tells key none;
          tells_others = λ key above none. tells_others key none;
        })
      where
        anywhere : (keys : List Key) → AllByRecursion (IsAbove None) keys
        anywhere [] = tt
        anywhere (first ∷ rest) = (tt, anywhere rest)
