-- Rows in order: a stable sort gives the rows that are put one after another at their place.
use Rattle.std.proofs.Common.{◌≡◌, ℕ, zero, suc, ◌+◌, ◌<◌, ◌≤◌, List, [], ◌∷◌, ◌++◌, Bool, true, false, cond, fold, length, get_or, refl, sym, ap, ◌∙◌, subst, arith, append-nil, append_assoc}
use Rattle.std.specs.Prelude.{IsPermutation, Option, Some, None, slice_get}
use Rattle.std.specs.Cmp.{IsStrictWeakOrder}
use Rattle.std.specs.List.{AllByRecursion as Each, filter}
use Rattle.std.specs.List.Sorted.{IsSortedBy, IsStableBy, ties}
use Rattle.std.proofs.lemmas.List.Sorted.{IsPermutation-append_left, IsPermutation-cons, IsPermutation-middle, IsPermutation-refl, IsPermutation-sym, IsPermutation-trans, sorted_far}
use Rattle.own_model.specs.Db.{Row}
use Rattle.query_model.specs.InOrder.{ArePutInOrder}
use Rattle.query_model.specs.Order.{placed, sorted}

-- no row comes before one that stands before it
Rises : {X : Type 0} → (X → X → Bool) → List X → Type 0
Rises lt [] = Unit {0}
Rises lt (first ∷ rest) = Each (λ later. lt later first ≡ false) rest × Rises lt rest

module _ {X : Type 0} where
  -- what holds at each place holds of each member
  each_from_places : (P : X → Type 0) (xs : List X) → ((k : ℕ) (d : X) → k < length xs → P (get_or xs k d)) → Each P xs
  each_from_places P [] at = tt
  each_from_places P (first ∷ rest) at = (at 0 first (omega arith), each_from_places P rest (λ k d within. at (suc k) d (omega arith)))

  -- what holds of each, or less, holds of each
  each_weaker : (P Q : X → Type 0) → ((x : X) → P x → Q x) → (xs : List X) → Each P xs → Each Q xs
  each_weaker P Q gives [] all = tt
  each_weaker P Q gives (first ∷ rest) all = (gives first all.0, each_weaker P Q gives rest all.1)

  -- nothing passes
  pub none_pass : (p : X → Bool) (xs : List X) → Each (λ x. p x ≡ false) xs → filter p xs ≡ []
  none_pass p [] none = refl
  none_pass p (first ∷ rest) none = rw (none.0) (none_pass p rest none.1)

  module _ (lt : X → X → Bool) (order : IsStrictWeakOrder lt) where
    -- no row comes before one at a lesser place
    rises_from_places : (xs : List X) → ((i j : ℕ) (d : X) → i ≤ j → j < length xs → lt (get_or xs j d) (get_or xs i d) ≡ false) → Rises lt xs
    unfolding Rises
    rises_from_places [] up = tt
    rises_from_places (first ∷ rest) up = (
      each_from_places (λ later. lt later first ≡ false) rest (λ k d within. up 0 (suc k) d (omega arith) (omega arith)),
      rises_from_places rest (λ i j d before within. up (suc i) (suc j) d (omega arith) (omega arith)),
    )

    -- a sorted list rises
    rises_from_sorted : (xs : List X) → IsSortedBy lt xs → Rises lt xs
    rises_from_sorted xs up = rises_from_places xs (sorted_far lt order xs up)

    -- nothing is less than itself
    never_less : (x : X) → lt x x ≡ false
    never_less x = by (lt x x) refl
      where
        by : (b : Bool) → lt x x ≡ b → lt x x ≡ false
        by true less = order.one_way x x less
        by false not_less = not_less

    -- so it ties with itself
    ties_itself : (x : X) → ties lt x x ≡ true
    ties_itself x = rw (never_less x) refl

    -- what is less doesn't tie
    less_no_tie : (x y : X) → lt x y ≡ true → ties lt x y ≡ false
    less_no_tie x y less = rw less refl

    -- what is less than one is less than any that isn't below that one
    less_then : (x y z : X) → lt x y ≡ true → lt z y ≡ false → lt x z ≡ true
    less_then x y z less at_most = by (lt x z) refl
      where
        by : (b : Bool) → lt x z ≡ b → lt x z ≡ true
        by true is = is
        by false is = let never : true ≡ false = sym less ∙ order.chain x z y is at_most in cc

    -- what is less than the first of rising rows ties with none of them
    none_tie : (x first : X) (rest : List X) → lt x first ≡ true → Each (λ later. lt later first ≡ false) rest → filter (ties lt x) (first ∷ rest) ≡ []
    none_tie x first rest less rises =
        none_pass (ties lt x) (first ∷ rest) (
          less_no_tie x first less,
          each_weaker (λ later. lt later first ≡ false) (λ later. ties lt x later ≡ false) (λ later at_most. less_no_tie x later (less_then x first later less at_most)) rest rises,
        )

    -- the first of its own tie
    ties_begin : (x : X) (rest : List X) → filter (ties lt x) (x ∷ rest) ≡ x ∷ filter (ties lt x) rest
    ties_begin x rest = rw (ties_itself x) refl

    -- without the first, which both have
    rest_same : (x first : X) (xs ys : List X) → (b : Bool) → ties lt x first ≡ b → filter (ties lt x) (first ∷ xs) ≡ filter (ties lt x) (first ∷ ys) → filter (ties lt x) xs ≡ filter (ties lt x) ys
    rest_same x first xs ys true tie same = let both = rw tie at same in let tails : filter (ties lt x) xs ≡ filter (ties lt x) ys = cc in tails
    rest_same x first xs ys false tie same = rw tie at same

    -- two rising lists with the same rows in each tie are the same
    same_from_ties : (xs ys : List X) → Rises lt xs → Rises lt ys → ((x : X) → filter (ties lt x) xs ≡ filter (ties lt x) ys) → xs ≡ ys
    unfolding Rises
    same_from_ties [] [] up up' same = refl
    same_from_ties [] (y ∷ ys) up up' same = let never : [] ≡ y ∷ filter (ties lt y) ys = same y ∙ ties_begin y ys in cc
    same_from_ties (x ∷ xs) [] up up' same = let never : x ∷ filter (ties lt x) xs ≡ [] = sym (ties_begin x xs) ∙ same x in cc
    same_from_ties (x ∷ xs) (y ∷ ys) up up' same = by (λ tails. same_from_ties xs ys up.1 up'.1 tails) (lt x y) (lt y x) refl refl
      where
        firsts : lt x y ≡ false → lt y x ≡ false → x ≡ y
        firsts p q =
            let tie : ties lt x y ≡ true = rw (p, q) refl in
            let here : x ∷ filter (ties lt x) xs ≡ y ∷ filter (ties lt x) ys = sym (ties_begin x xs) ∙ same x ∙ rw tie refl in
            cc

        tails : x ≡ y → (z : X) → filter (ties lt z) xs ≡ filter (ties lt z) ys
        tails is z = rest_same z y xs ys (ties lt z y) refl (subst (λ w. filter (ties lt z) (w ∷ xs) ≡ filter (ties lt z) (y ∷ ys)) is (same z))

        by : (((z : X) → filter (ties lt z) xs ≡ filter (ties lt z) ys) → xs ≡ ys) → (a b : Bool) → lt x y ≡ a → lt y x ≡ b → x ∷ xs ≡ y ∷ ys
        by more true b p q = let never : x ∷ filter (ties lt x) xs ≡ [] = sym (ties_begin x xs) ∙ same x ∙ none_tie x y ys p up'.0 in cc
        by more false true p q = let never : [] ≡ y ∷ filter (ties lt y) ys = sym (none_tie y x xs q up.0) ∙ same y ∙ ties_begin y ys in cc
        by more false false p q = let is : x ≡ y = firsts p q in let others : xs ≡ ys = more (tails is) in cc

-- what holds of a row and of each of some holds of each where the row is at its place
each_placed : (before : Row → Row → Bool) (P : Row → Type 0) (row : Row) → P row → (rows : List Row) → Each P rows → Each P (placed before row rows)
each_placed before P row this [] all = (this, tt)
each_placed before P row this (first ∷ rest) all = by (each_placed before P row this rest all.1) (before row first)
  where
    by : Each P (placed before row rest) → (b : Bool) → Each P (cond b (row ∷ first ∷ rest) (first ∷ placed before row rest))
    by more true = (this, all)
    by more false = (all.0, more)

-- what holds of each holds at each place
each_at : (P : Row → Type 0) (rows : List Row) (place : ℕ) (row : Row) → Each P rows → slice_get rows place ≡ Some row → P row
each_at P [] place row all at = let never : ◌≡◌ {A = Option Row} None (Some row) = at in cc
each_at P (first ∷ rest) zero row all at = let same : first ≡ row = cc in subst P same all.0
each_at P (first ∷ rest) (suc place) row all at = each_at P rest place row all.1 at

-- a row at its place is one among the others
permuted_placed : (before : Row → Row → Bool) (row : Row) (rows : List Row) → IsPermutation (row ∷ rows) (placed before row rows)
permuted_placed before row [] = IsPermutation-refl (row ∷ [])
permuted_placed before row (first ∷ rest) = by (permuted_placed before row rest) (before row first)
  where
    by : IsPermutation (row ∷ rest) (placed before row rest) → (b : Bool) → IsPermutation (row ∷ first ∷ rest) (cond b (row ∷ first ∷ rest) (first ∷ placed before row rest))
    by more true = IsPermutation-refl (row ∷ first ∷ rest)
    by more false =
        IsPermutation-trans (row ∷ first ∷ rest) (first ∷ row ∷ rest) (first ∷ placed before row rest)
        (IsPermutation-sym (first ∷ row ∷ rest) (row ∷ first ∷ rest) (IsPermutation-middle (first ∷ []) row rest))
        (IsPermutation-cons first (row ∷ rest) (placed before row rest) more)

-- and rows put one after another are those and these
permuted : (before : Row → Row → Bool) (rows more : List Row) → IsPermutation (rows ++ more) (fold (λ ordered row. placed before row ordered) rows more)
permuted before rows [] = subst (λ l. IsPermutation l rows) (sym (append-nil rows)) (IsPermutation-refl rows)
permuted before rows (first ∷ rest) =
    IsPermutation-trans (rows ++ first ∷ rest) (first ∷ (rows ++ rest)) _ (IsPermutation-middle rows first rest)
    (IsPermutation-trans (first ∷ (rows ++ rest)) (placed before first rows ++ rest) _
    (IsPermutation-append_left rest (first ∷ rows) (placed before first rows) (permuted_placed before first rows))
    (permuted before (placed before first rows) rest))

module _ (before : Row → Row → Bool) (order : IsStrictWeakOrder before) where
  -- a row at its place among rising rows
  rises_placed : (row : Row) (rows : List Row) → Rises before rows → Rises before (placed before row rows)
  unfolding Rises
  rises_placed row [] up = (tt, tt)
  rises_placed row (first ∷ rest) up = by (rises_placed row rest up.1) (before row first) refl
    where
      by : Rises before (placed before row rest) → (b : Bool) → before row first ≡ b → Rises before (cond b (row ∷ first ∷ rest) (first ∷ placed before row rest))
      by more true less = (
        (order.one_way row first less, each_weaker (λ later. before later first ≡ false) (λ later. before later row ≡ false) (λ later at_most. order.chain later first row at_most (order.one_way row first less)) rest up.0),
        up,
      )
      by more false at_least = (each_placed before (λ later. before later first ≡ false) row at_least rest up.0, more)

  -- a row before all others in its tie
  ties_before : (x row first : Row) (rest : List Row) → before row first ≡ true → Each (λ later. before later first ≡ false) rest → (b : Bool) → ties before x row ≡ b
      → cond b (row ∷ filter (ties before x) (first ∷ rest)) (filter (ties before x) (first ∷ rest)) ≡ filter (ties before x) (first ∷ rest) ++ cond b (row ∷ []) []
  ties_before x row first rest less rises true tie =
      let none : filter (ties before x) (first ∷ rest) ≡ [] = none_tie before order x first rest (below (before x first) refl) rises in
      rw none refl
    where
      not_more : (b c : Bool) → before x row ≡ b → before row x ≡ c → before row x ≡ false
      not_more true c p q = let never : false ≡ true = rw p at tie in cc
      not_more false true p q = let never : false ≡ true = rw (p, q) at tie in cc
      not_more false false p q = q

      below : (b : Bool) → before x first ≡ b → before x first ≡ true
      below true is = is
      below false is = let never : true ≡ false = sym less ∙ order.chain row x first (not_more _ _ refl refl) is in cc
  ties_before x row first rest less rises false tie = sym (append-nil (filter (ties before x) (first ∷ rest)))

  -- a row more stands last among those that it ties with
  ties_placed : (x row : Row) (rows : List Row) → Rises before rows → filter (ties before x) (placed before row rows) ≡ filter (ties before x) rows ++ cond (ties before x row) (row ∷ []) []
  unfolding Rises
  ties_placed x row [] up = refl
  ties_placed x row (first ∷ rest) up = by (ties_placed x row rest up.1) (before row first) refl
    where
      passed : filter (ties before x) (placed before row rest) ≡ filter (ties before x) rest ++ cond (ties before x row) (row ∷ []) []
          → (b : Bool) → cond b (first ∷ filter (ties before x) (placed before row rest)) (filter (ties before x) (placed before row rest)) ≡ cond b (first ∷ filter (ties before x) rest) (filter (ties before x) rest) ++ cond (ties before x row) (row ∷ []) []
      passed more true = ap (λ l. first ∷ l) more
      passed more false = more

      by : filter (ties before x) (placed before row rest) ≡ filter (ties before x) rest ++ cond (ties before x row) (row ∷ []) []
          → (b : Bool) → before row first ≡ b → filter (ties before x) (cond b (row ∷ first ∷ rest) (first ∷ placed before row rest)) ≡ filter (ties before x) (first ∷ rest) ++ cond (ties before x row) (row ∷ []) []
      by more true less = ties_before x row first rest less up.0 (ties before x row) refl
      by more false at_least = passed more (ties before x first)

  -- the same for rows that are put one after another
  rises_sorted : (rows more : List Row) → Rises before rows → Rises before (fold (λ ordered row. placed before row ordered) rows more)
  rises_sorted rows [] up = up
  rises_sorted rows (first ∷ rest) up = rises_sorted (placed before first rows) rest (rises_placed first rows up)

  -- and each tie has them as they stood
  ties_sorted : (x : Row) (rows more : List Row) → Rises before rows
      → filter (ties before x) (fold (λ ordered row. placed before row ordered) rows more) ≡ filter (ties before x) rows ++ filter (ties before x) more
  ties_sorted x rows [] up = sym (append-nil (filter (ties before x) rows))
  ties_sorted x rows (first ∷ rest) up =
      ties_sorted x (placed before first rows) rest (rises_placed first rows up)
      ∙ ap (λ l. l ++ filter (ties before x) rest) (ties_placed x first rows up)
      ∙ joined (ties before x first)
    where
      joined : (b : Bool) → (filter (ties before x) rows ++ cond b (first ∷ []) []) ++ filter (ties before x) rest ≡ filter (ties before x) rows ++ cond b (first ∷ filter (ties before x) rest) (filter (ties before x) rest)
      joined true = append_assoc (filter (ties before x) rows) (first ∷ []) (filter (ties before x) rest)
      joined false = append_assoc (filter (ties before x) rows) [] (filter (ties before x) rest)

  -- a stable sort gives the rows in order
  pub sorted_by_stable_sort : (rows ordered : List Row) → IsSortedBy before ordered → IsStableBy before rows ordered → ordered ≡ sorted before rows
  unfolding sorted Rises
  sorted_by_stable_sort rows ordered up stable =
      same_from_ties before order ordered (sorted before rows) (rises_from_sorted before order ordered up) (rises_sorted [] rows tt)
      (λ x. stable x ∙ sym (ties_sorted x [] rows tt))

  rises_places : (rows : List Row) → Rises before rows → (place behind : ℕ) (row later : Row) → place < behind → slice_get rows place ≡ Some row → slice_get rows behind ≡ Some later
      → before later row ≡ false
  unfolding Rises
  rises_places [] up place behind row later follows at_place at_behind = let never : ◌≡◌ {A = Option Row} None (Some row) = at_place in cc
  rises_places (first ∷ rest) up place zero row later follows at_place at_behind = absurd (omega arith)
  rises_places (first ∷ rest) up zero (suc behind) row later follows at_place at_behind =
      let same : first ≡ row = cc in subst (λ r. before later r ≡ false) same (each_at (λ other. before other first ≡ false) rest behind later up.0 at_behind)
  rises_places (first ∷ rest) up (suc place) (suc behind) row later follows at_place at_behind = rises_places rest up.1 place behind row later (omega arith) at_place at_behind

  -- rows in order are the same rows in that order, and stable
  pub sorted_in_order : (rows : List Row) → ArePutInOrder before rows (sorted before rows)
  unfolding sorted Rises
  sorted_in_order rows = record {
    same_rows = permuted before [] rows;
    in_order = rises_places (sorted before rows) (rises_sorted [] rows tt);
    stable = λ x. ties_sorted x [] rows tt;
  }

-- a row more at its place is a row more
length-placed : (before : Row → Row → Bool) (row : Row) (rows : List Row) → length (placed before row rows) ≡ suc (length rows)
length-placed before row [] = refl
length-placed before row (first ∷ rest) = by (length-placed before row rest) (before row first)
  where
    by : length (placed before row rest) ≡ suc (length rest) → (b : Bool) → length (cond b (row ∷ first ∷ rest) (first ∷ placed before row rest)) ≡ suc (suc (length rest))
    by more true = refl
    by more false = ap suc more

-- rows put one after another are as many
length-put : (before : Row → Row → Bool) (rows more : List Row) → length (fold (λ ordered row. placed before row ordered) rows more) ≡ length rows + length more
length-put before rows [] = omega arith
length-put before rows (first ∷ rest) = let more = length-put before (placed before first rows) rest in let one = length-placed before first rows in omega (arith, more, one)

-- rows in order are as many
pub length-sorted : (before : Row → Row → Bool) (rows : List Row) → length (sorted before rows) ≡ length rows
unfolding sorted
length-sorted before rows = let all = length-put before [] rows in omega (arith, all)
