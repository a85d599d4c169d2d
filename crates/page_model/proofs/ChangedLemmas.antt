-- What changes do to parts of a list.
use Rattle.std.proofs.Common.{◌≡◌, refl, sym, ◌∙◌, ap, subst, List, [], ◌∷◌, ◌++◌, ℕ, length, take, drop, Option, Some, None, append_assoc, append-nil, ◌+◌, ◌<◌, ◌≤◌, arith, length-append, get_or, take-append-drop}
use Rattle.std.specs.Prelude.{Bool, true, false, cond, IfSome}
use Rattle.std.specs.Cmp.{IsTotalOrder}
use Rattle.std.specs.List.{AllByRecursion as Each, filter}
use Rattle.std.specs.List.Sorted.{IsStrictlySortedBy}
use Rattle.std.specs.Option.{option_to_list}
use Rattle.std.specs.Ordering.{is_gt, is_lt}
use Rattle.std.specs.declared.cmp.Ordering.{Ordering}
use Rattle.std.specs.declared.cmp.Ordering.TheVariants.{Less, Equal, Greater}
use Rattle.std.proofs.lemmas.List.{drop_more}
use Rattle.std.proofs.lemmas.List.Elements.{filter-append}
use Rattle.page_model.specs.Changed.{above_key, AreKeyed, below_key, with_change, with_changes}
use Rattle.page_model.specs.Rising.{IsRising}
use Rattle.page_model.proofs.Ordered.{above_from_below, below_from_above, below_other, greater_from_gt, less_from}
use Rattle.page_model.proofs.RisingLemmas.{each_append, each_back, each_mapped, rising_back, each_weaker, rising_append, rising_behind, rising_tail}

-- a filter that all pass, and one that none passes
pub filter_all : {X : Type 0} (p : X → Bool) (xs : List X) → Each (λ x. p x ≡ true) xs → filter p xs ≡ xs
filter_all p [] h = refl
filter_all p (x ∷ xs) h = rw (h.0, filter_all p xs h.1) refl

pub filter_none : {X : Type 0} (p : X → Bool) (xs : List X) → Each (λ x. p x ≡ false) xs → filter p xs ≡ []
filter_none p [] h = refl
filter_none p (x ∷ xs) h = rw h.0 (filter_none p xs h.1)

-- what passes keeps what it has
each_cond : {X : Type 0} (P : X → Type 0) (b : Bool) (x : X) (xs : List X) → P x → Each P xs → Each P (cond b (x ∷ xs) xs)
each_cond P true x xs h i = (h, i)
each_cond P false x xs h i = i

each_filter : {X : Type 0} (P : X → Type 0) (p : X → Bool) (xs : List X) → Each P xs → Each P (filter p xs)
each_filter P p [] h = tt
each_filter P p (x ∷ xs) h = each_cond P (p x) x (filter p xs) h.0 (each_filter P p xs h.1)

each_passes_cond : {X : Type 0} (p : X → Bool) (b : Bool) (x : X) (xs : List X) → p x ≡ b → Each (λ x. p x ≡ true) xs → Each (λ x. p x ≡ true) (cond b (x ∷ xs) xs)
each_passes_cond p true x xs is h = (is, h)
each_passes_cond p false x xs is h = h

each_passes : {X : Type 0} (p : X → Bool) (xs : List X) → Each (λ x. p x ≡ true) (filter p xs)
each_passes p [] = tt
each_passes p (x ∷ xs) = each_passes_cond p (p x) x (filter p xs) refl (each_passes p xs)

each_option : {X : Type 0} (P : X → Type 0) (o : Option X) → IfSome o P → Each P (option_to_list o)
each_option P None h = tt
each_option P (Some x) h = (h, tt)

module _ {T K C : Type 0} (key_of : T → K) {cmp : K → K → Ordering} (order : IsTotalOrder cmp) (changed : C → K) (put : C → Option T) where
  -- a change leaves what is below its key, in front
  with_change-front : (key : K) (item : Option T) (front xs : List T) → Each (λ x. cmp (key_of x) key ≡ Less) front
      → with_change key_of cmp key item (front ++ xs) ≡ front ++ with_change key_of cmp key item xs
  unfolding with_change
  with_change-front key item front xs below =
      rw (
        filter-append (λ x. is_lt (cmp (key_of x) key)) front xs,
        filter-append (λ x. is_gt (cmp (key_of x) key)) front xs,
        filter_all (λ x. is_lt (cmp (key_of x) key)) front (each_weaker _ _ (λ x. ap is_lt) front below),
        filter_none (λ x. is_gt (cmp (key_of x) key)) front (each_weaker _ _ (λ x. ap is_gt) front below),
      )
      (append_assoc front _ _)

  -- and what is above it, behind
  with_change-back : (key : K) (item : Option T) (xs back : List T) → Each (λ x. cmp (key_of x) key ≡ Greater) back
      → with_change key_of cmp key item (xs ++ back) ≡ with_change key_of cmp key item xs ++ back
  unfolding with_change
  with_change-back key item xs back above =
      rw (
        filter-append (λ x. is_lt (cmp (key_of x) key)) xs back,
        filter-append (λ x. is_gt (cmp (key_of x) key)) xs back,
        filter_none (λ x. is_lt (cmp (key_of x) key)) back (each_weaker _ _ (λ x. ap is_lt) back above),
        filter_all (λ x. is_gt (cmp (key_of x) key)) back (each_weaker _ _ (λ x. ap is_gt) back above),
      )
      (simp (append_assoc, append-nil))

  -- the same of several changes
  pub with_changes-front : (changes : List C) (front xs : List T) → Each (λ change. Each (λ x. cmp (key_of x) (changed change) ≡ Less) front) changes
      → with_changes key_of cmp changed put changes (front ++ xs) ≡ front ++ with_changes key_of cmp changed put changes xs
  unfolding with_changes
  with_changes-front [] front xs below = refl
  with_changes-front (change ∷ changes) front xs below =
      rw (with_change-front (changed change) (put change) front xs below.0) (with_changes-front changes front _ below.1)

  pub with_changes-back : (changes : List C) (xs back : List T) → Each (λ change. Each (λ x. cmp (key_of x) (changed change) ≡ Greater) back) changes
      → with_changes key_of cmp changed put changes (xs ++ back) ≡ with_changes key_of cmp changed put changes xs ++ back
  unfolding with_changes
  with_changes-back [] xs back above = refl
  with_changes-back (change ∷ changes) xs back above =
      rw (with_change-back (changed change) (put change) xs back above.0) (with_changes-back changes _ back above.1)

  -- some changes after others
  pub with_changes-append : (first others : List C) (xs : List T)
      → with_changes key_of cmp changed put (first ++ others) xs ≡ with_changes key_of cmp changed put others (with_changes key_of cmp changed put first xs)
  unfolding with_changes
  with_changes-append [] others xs = refl
  with_changes-append (change ∷ first) others xs = with_changes-append first others _

  -- what holds of the items and of those put holds of what changes leave
  pub each_with_changes : (P : T → Type 0) (changes : List C) (xs : List T) → Each P xs → Each (λ change. IfSome (put change) P) changes
      → Each P (with_changes key_of cmp changed put changes xs)
  unfolding with_changes with_change
  each_with_changes P [] xs h i = h
  each_with_changes P (change ∷ changes) xs h i =
      each_with_changes P changes _
      (each_append P _ _ (each_filter P _ xs h) (each_append P _ _ (each_option P (put change) i.0) (each_filter P _ xs h)))
      i.1

  some_weaker : {X : Type 0} (P Q : X → Type 0) (o : Option X) → ((x : X) → P x → Q x) → IfSome o P → IfSome o Q
  some_weaker P Q None f h = tt
  some_weaker P Q (Some x) f h = f x h

  each_both : {X : Type 0} (P Q R : X → Type 0) → ((x : X) → P x → Q x → R x) → (xs : List X) → Each P xs → Each Q xs → Each R xs
  each_both P Q R f [] h i = tt
  each_both P Q R f (x ∷ xs) h i = (f x h.0 i.0, each_both P Q R f xs h.1 i.1)

  -- each change adds no more than an item
  length_put : (o : Option T) → length (option_to_list o) ≤ 1
  length_put None = omega arith
  length_put (Some x) = omega arith

  length_sides_from : (key : K) (x : T) (xs : List T) (o : Ordering) → length (below_key key_of cmp key xs) + length (above_key key_of cmp key xs) ≤ length xs
      → length (cond (is_lt o) (x ∷ below_key key_of cmp key xs) (below_key key_of cmp key xs)) + length (cond (is_gt o) (x ∷ above_key key_of cmp key xs) (above_key key_of cmp key xs)) ≤ length xs + 1
  length_sides_from key x xs Less h = omega arith
  length_sides_from key x xs Equal h = omega arith
  length_sides_from key x xs Greater h = omega arith

  length_sides : (key : K) (xs : List T) → length (below_key key_of cmp key xs) + length (above_key key_of cmp key xs) ≤ length xs
  length_sides key [] = omega arith
  length_sides key (x ∷ xs) = let more = length_sides_from key x xs (cmp (key_of x) key) (length_sides key xs) in omega arith

  length_with_change : (key : K) (item : Option T) (xs : List T) → length (with_change key_of cmp key item xs) ≤ length xs + 1
  unfolding with_change
  length_with_change key item xs =
      omega (arith, length-append (below_key key_of cmp key xs) (option_to_list item ++ above_key key_of cmp key xs), length-append (option_to_list item) (above_key key_of cmp key xs), length_put item, length_sides key xs)

  pub length_with_changes : (changes : List C) (xs : List T) → length (with_changes key_of cmp changed put changes xs) ≤ length xs + length changes
  unfolding with_changes
  length_with_changes [] xs = omega arith
  length_with_changes (change ∷ changes) xs =
      let one = length_with_change (changed change) (put change) xs in
      let others = length_with_changes changes (with_change key_of cmp (changed change) (put change) xs) in
      omega arith

  -- items and changes below a key, and others that aren't, keep apart
  pub changes_apart : (key : K) (left right : List T) (below above : List C)
      → Each (λ x. cmp (key_of x) key ≡ Less) left → Each (λ x. is_lt (cmp (key_of x) key) ≡ false) right
      → Each (λ change. cmp (changed change) key ≡ Less) below → Each (λ change. is_lt (cmp (changed change) key) ≡ false) above
      → AreKeyed key_of changed put below
      → with_changes key_of cmp changed put (below ++ above) (left ++ right)
      ≡ with_changes key_of cmp changed put below left ++ with_changes key_of cmp changed put above right
  changes_apart key left right below above left_is right_is below_is above_is keyed =
      let behind = each_weaker _ _ (λ change is. each_weaker _ _ (λ y not_below.
      above_from_below order (changed change) (key_of y) (below_other order (changed change) (key_of y) key is not_below)) right right_is) below below_is in
      let front = each_weaker _ _ (λ change not_below. each_with_changes (λ x. cmp (key_of x) (changed change) ≡ Less) below left
      (each_weaker _ _ (λ x is. below_other order (key_of x) (changed change) key is not_below) left left_is)
      (each_both _ _ _ (λ earlier has is. some_weaker _ _ (put earlier)
      (λ x same. subst (λ k. cmp k (changed change) ≡ Less) (sym same) (below_other order (changed earlier) (changed change) key is not_below)) has) below keyed below_is)) above above_is in
      with_changes-append below above (left ++ right)
      ∙ (ap (with_changes key_of cmp changed put above) (with_changes-back below left right behind)
      ∙ with_changes-front above (with_changes key_of cmp changed put below left) right front)

  -- one change, and those of greater keys
  pub changes_step : (change : C) (changes : List C) (xs : List T)
      → Each (λ later. cmp (changed change) (changed later) ≡ Less) changes → IfSome (put change) (λ x. key_of x ≡ changed change)
      → with_changes key_of cmp changed put (change ∷ changes) xs
      ≡ (below_key key_of cmp (changed change) xs ++ option_to_list (put change)) ++ with_changes key_of cmp changed put changes (above_key key_of cmp (changed change) xs)
  unfolding with_changes with_change
  changes_step change changes xs later keyed =
      let front = each_weaker _ _ (λ other less. each_append (λ x. cmp (key_of x) (changed other) ≡ Less) _ _
      (each_weaker _ _ (λ x passes. order.trans _ _ _ (less_from _ passes) less) _ (each_passes (λ x. is_lt (cmp (key_of x) (changed change))) xs))
      (each_option _ (put change) (some_weaker _ _ (put change) (λ x same. subst (λ k. cmp k (changed other) ≡ Less) (sym same) less) keyed))) changes later in
      rw (← append_assoc (below_key key_of cmp (changed change) xs) (option_to_list (put change)) (above_key key_of cmp (changed change) xs))
      (with_changes-front changes _ _ front)

  -- the same at a place of a list of changes whose keys rise
  pub changes_next : (changes : List C) (index : ℕ) (change : C) (xs : List T) → index < length changes → change ≡ get_or changes index change → IsRising changed cmp changes → AreKeyed key_of changed put changes
      → with_changes key_of cmp changed put (drop index changes) xs
      ≡ (below_key key_of cmp (changed change) xs ++ option_to_list (put change)) ++ with_changes key_of cmp changed put (drop (index + 1) changes) (above_key key_of cmp (changed change) xs)
  changes_next changes index change xs within is rising keyed =
      let here : drop index changes ≡ change ∷ drop (index + 1) changes = drop_more changes index change within ∙ ap (λ c. c ∷ drop (index + 1) changes) (sym is) in
      let rises = subst (IsRising changed cmp) here (rising_back changed cmp (take index changes) (drop index changes) (subst (IsRising changed cmp) (sym (take-append-drop index changes)) rising)) in
      let keys = subst (AreKeyed key_of changed put) here (each_back _ (take index changes) (drop index changes) (subst (AreKeyed key_of changed put) (sym (take-append-drop index changes)) keyed)) in
      ap (λ cs. with_changes key_of cmp changed put cs xs) here
      ∙ changes_step change (drop (index + 1) changes) xs (rising_behind changed cmp change (drop (index + 1) changes) rises) keys.0

  -- what a merge has made and what is left to it, one change on
  pub merged_next : (changes : List C) (index : ℕ) (change : C) (made next left rest all : List T) → index < length changes → change ≡ get_or changes index change → IsRising changed cmp changes → AreKeyed key_of changed put changes
      → next ≡ made ++ (below_key key_of cmp (changed change) left ++ option_to_list (put change)) → rest ≡ above_key key_of cmp (changed change) left
      → made ++ with_changes key_of cmp changed put (drop index changes) left ≡ all
      → next ++ with_changes key_of cmp changed put (drop (index + 1) changes) rest ≡ all
  merged_next changes index change made next left rest all within is rising keyed added above invariant =
      rw (added, above)
      (append_assoc made (below_key key_of cmp (changed change) left ++ option_to_list (put change)) (with_changes key_of cmp changed put (drop (index + 1) changes) (above_key key_of cmp (changed change) left))
      ∙ (ap (λ xs. made ++ xs) (sym (changes_next changes index change left within is rising keyed)) ∙ invariant))

  rising_cond : (b : Bool) (x : T) (xs : List T) → IsRising key_of cmp (x ∷ xs) → IsRising key_of cmp (cond b (x ∷ xs) xs)
  rising_cond true x xs rising = rising
  rising_cond false x xs rising = rising_tail key_of cmp x xs rising

  pub rising_filter : (p : T → Bool) (xs : List T) → IsRising key_of cmp xs → IsRising key_of cmp (filter p xs)
  unfolding IsStrictlySortedBy
  rising_filter p [] rising = tt
  rising_filter p (x ∷ xs) rising =
      rising_cond (p x) x (filter p xs) (each_mapped _ key_of (filter p xs) (each_filter _ p xs (rising_behind key_of cmp x xs rising)), rising_filter p xs (rising_tail key_of cmp x xs rising))

  rising_option : (o : Option T) → IsRising key_of cmp (option_to_list o)
  unfolding IsStrictlySortedBy
  rising_option None = tt
  rising_option (Some x) = (tt, tt)

  rising_with_change : (key : K) (item : Option T) (xs : List T) → IfSome item (λ x. key_of x ≡ key) → IsRising key_of cmp xs → IsRising key_of cmp (with_change key_of cmp key item xs)
  unfolding with_change
  rising_with_change key item xs keyed rising =
      let below = each_weaker _ _ (λ x. less_from _) _ (each_passes (λ x. is_lt (cmp (key_of x) key)) xs) in
      let above = each_weaker _ _ (λ x passes. below_from_above order _ _ (greater_from_gt _ passes)) _ (each_passes (λ x. is_gt (cmp (key_of x) key)) xs) in
      let here : Each (λ x. key_of x ≡ key) (option_to_list item) = each_option _ item keyed in
      rising_append key_of cmp _ _ (rising_filter _ xs rising)
      (rising_append key_of cmp _ _ (rising_option item) (rising_filter _ xs rising)
      (each_weaker _ _ (λ x same. subst (λ k. Each (λ y. cmp k (key_of y) ≡ Less) (above_key key_of cmp key xs)) (sym same) above) (option_to_list item) here))
      (each_weaker _ _ (λ x less. each_append _ _ _
      (each_weaker _ _ (λ y same. subst (λ k. cmp (key_of x) k ≡ Less) (sym same) less) (option_to_list item) here)
      (each_weaker _ _ (λ y more. order.trans _ _ _ less more) (above_key key_of cmp key xs) above)) (below_key key_of cmp key xs) below)

  -- after changes the keys rise as before
  pub rising_with_changes : (changes : List C) (xs : List T) → AreKeyed key_of changed put changes → IsRising key_of cmp xs → IsRising key_of cmp (with_changes key_of cmp changed put changes xs)
  unfolding with_changes
  rising_with_changes [] xs keyed rising = rising
  rising_with_changes (change ∷ changes) xs keyed rising = rising_with_changes changes _ keyed.1 (rising_with_change (changed change) (put change) xs keyed.0 rising)
