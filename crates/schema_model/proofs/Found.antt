-- What is found in a list: the first element that passes a test, and its place.
use Rattle.std.proofs.Common.{◌≡◌, ℕ, zero, suc, ◌<◌, ◌≤◌, List, [], ◌∷◌, ◌++◌, length, Bool, true, false, not, ◌&&◌, ltb, sym, ◌∙◌, refl, ap, arith}
use Rattle.std.specs.Prelude.{Option, Some, None, slice_get, find, position, unwrap_or}
use Rattle.std.specs.List.{AllByRecursion, position_or_len}
use Rattle.std.proofs.lemmas.Bool.{cond-true, lt-ltb, ltb-false, ltb-true}
use Rattle.std.proofs.lemmas.List.Folds.{find-append, find_at}
use Rattle.std.proofs.lemmas.List.Sums.{prefix_len-le-length}
use Rattle.schema_model.proofs.Places.{IsIn, all-at, at-place, place-lt, slice_get-append, slice_get-push}

module _ {X : Type 0} (test : X → Bool) where
  find_step : (first : X) (xs : List X) (x : X) → find test (first ∷ xs) ≡ Some x → (find test xs ≡ Some x → IsIn xs x × (test x ≡ true))
      → (b : Bool) → test first ≡ b → IsIn (first ∷ xs) x × (test x ≡ true)
  find_step first xs x found more true is =
      let both : ◌≡◌ {A = Option X} (Some first) (Some x) = rw is at found in let same : first ≡ x = cc in ((0, both), rw (← same) is)
  find_step first xs x found more false is = let later = more (rw is at found) in ((suc later.0.0, later.0.1), later.1)

  -- what is found stands in the list and passes
  pub find-some : (xs : List X) (x : X) → find test xs ≡ Some x → IsIn xs x × (test x ≡ true)
  find-some [] x found = let never : ⊥ = cc in absurd never
  find-some (first ∷ xs) x found = find_step first xs x found (find-some xs x) _ refl

  none_step : (first : X) (xs : List X) → find test (first ∷ xs) ≡ None → (find test xs ≡ None → AllByRecursion (λ x. test x ≡ false) xs)
      → (b : Bool) → test first ≡ b → AllByRecursion (λ x. test x ≡ false) (first ∷ xs)
  none_step first xs none more true is = let never : ◌≡◌ {A = Option X} (Some first) None = rw is at none in cc
  none_step first xs none more false is = (is, more (rw is at none))

  -- where nothing is found, each fails
  pub find-none : (xs : List X) → find test xs ≡ None → AllByRecursion (λ x. test x ≡ false) xs
  find-none [] none = tt
  find-none (first ∷ xs) none = none_step first xs none (find-none xs) _ refl

  -- an element that passes is found, or another before it
  pub find-there : (xs : List X) (place : ℕ) (x : X) → slice_get xs place ≡ Some x → test x ≡ true → (found : X) × (find test xs ≡ Some found)
  find-there xs place x is passes = by (find test xs) refl
    where
      by : (o : Option X) → find test xs ≡ o → (found : X) × (find test xs ≡ Some found)
      by None none = let fails : test x ≡ false = all-at (λ x. test x ≡ false) xs (find-none xs none) place x is in let never : ⊥ = cc in absurd never
      by (Some found) some = (found, some)

  -- the one place at which an element passes is where it is found
  pub find-only : (xs : List X) (place : ℕ) (x : X) → slice_get xs place ≡ Some x → test x ≡ true
      → ((other : ℕ) (y : X) → slice_get xs other ≡ Some y → test y ≡ true → other ≡ place) → find test xs ≡ Some x
  find-only xs place x is passes only =
      let there = find-there xs place x is passes in
      let found = find-some xs there.0 there.1 in
      let at : found.0.0 ≡ place = only found.0.0 there.0 found.0.1 found.1 in
      let own : slice_get xs place ≡ Some there.0 = rw at at found.0.1 in
      let same : there.0 ≡ x = cc in
      let is_found = there.1 in cc

  narrow_step : (more : X → Bool) (first : X) (xs : List X) (x : X) → find test (first ∷ xs) ≡ Some x → more x ≡ true
      → (find test xs ≡ Some x → find (λ x. more x && test x) xs ≡ Some x)
      → (b : Bool) → test first ≡ b → find (λ x. more x && test x) (first ∷ xs) ≡ Some x
  narrow_step more first xs x found passes later true is =
      let both : ◌≡◌ {A = Option X} (Some first) (Some x) = rw is at found in let same : first ≡ x = cc in
      let own : more first ≡ true = rw same passes in rw (is, own) both
  narrow_step more first xs x found passes later false is = rw (is, and-false (more first)) (later (rw is at found))
    where
      and-false : (b : Bool) → (b && false) ≡ false
      and-false true = refl
      and-false false = refl

  -- what is found is also found by a narrower test that it passes
  pub find-narrower : (more : X → Bool) (xs : List X) (x : X) → find test xs ≡ Some x → more x ≡ true → find (λ x. more x && test x) xs ≡ Some x
  find-narrower more [] x found passes = cc
  find-narrower more (first ∷ xs) x found passes = narrow_step more first xs x found passes (λ is. find-narrower more xs x is passes) _ refl

  -- the place of an element that passes
  pub position-there : (xs : List X) (place : ℕ) (x : X) → slice_get xs place ≡ Some x → test x ≡ true
      → (first : ℕ) × (position test xs ≡ Some first) × (position_or_len test xs ≡ first) × (first < length xs)
  position-there xs place x is passes =
      let there = find-there xs place x is passes in
      let at : slice_get xs (position_or_len test xs) ≡ Some there.0 = sym (find_at test xs) ∙ there.1 in
      let below = place-lt xs (position_or_len test xs) there.0 at in
      (position_or_len test xs, cond-true _ _ _ (lt-ltb (position_or_len test xs) (length xs) below), refl, below)

  position_step : (xs : List X) (place : ℕ) → position test xs ≡ Some place → (b : Bool) → ltb (position_or_len test xs) (length xs) ≡ b
      → (position_or_len test xs ≡ place) × (place < length xs)
  position_step xs place some true below =
      let both : ◌≡◌ {A = Option ℕ} (Some (position_or_len test xs)) (Some place) = rw below at some in
      let same : position_or_len test xs ≡ place = cc in
      (same, rw (← same) (ltb-true _ _ below))
  position_step xs place some false past = let never : ◌≡◌ {A = Option ℕ} None (Some place) = rw past at some in cc

  -- what stands at a place that is found passes
  pub position-some : (xs : List X) (place : ℕ) → position test xs ≡ Some place → (x : X) × (slice_get xs place ≡ Some x) × (test x ≡ true)
  position-some xs place some =
      let is = position_step xs place some _ refl in
      let own = at-place xs place is.1 in
      let found : find test xs ≡ Some own.0 = find_at test xs ∙ ap (slice_get xs) is.0 ∙ own.1 in
      (own.0, own.1, (find-some xs own.0 found).1)

  number_step : (xs : List X) → (b : Bool) → ltb (position_or_len test xs) (length xs) ≡ b → unwrap_or (position test xs) (length xs) ≡ position_or_len test xs
  number_step xs true below = rw below refl
  number_step xs false past =
      let most : position_or_len test xs ≤ length xs = prefix_len-le-length (λ x. not (test x)) xs in
      let least = ltb-false _ _ past in
      rw past (omega arith)

  -- the place of the first that passes, or else the length
  number-is : (xs : List X) → unwrap_or (position test xs) (length xs) ≡ position_or_len test xs
  number-is xs = number_step xs _ refl

  past_the_last : (xs : List X) → find test xs ≡ None → position_or_len test xs ≡ length xs
  past_the_last xs none = by _ refl
    where
      by : (b : Bool) → ltb (position_or_len test xs) (length xs) ≡ b → position_or_len test xs ≡ length xs
      by true below =
          let there = at-place xs (position_or_len test xs) (ltb-true _ _ below) in
          let found : find test xs ≡ Some there.0 = find_at test xs ∙ there.1 in cc
      by false past =
          let most : position_or_len test xs ≤ length xs = prefix_len-le-length (λ x. not (test x)) xs in
          let least = ltb-false _ _ past in omega arith

  last_step : (xs : List X) (last x : X) → find test (xs ++ last ∷ []) ≡ Some x → (o : Option X) → find test xs ≡ o
      → slice_get (xs ++ last ∷ []) (position_or_len test xs) ≡ Some x
  last_step xs last x found (Some first) is =
      let both : ◌≡◌ {A = Option X} (Some first) (Some x) = rw (find-append test xs (last ∷ []), is) at found in
      slice_get-append xs (last ∷ []) (position_or_len test xs) x (sym (find_at test xs) ∙ is ∙ both)
  last_step xs last x found None is =
      let own : find test (last ∷ []) ≡ Some x = rw (find-append test xs (last ∷ []), is) at found in
      let among = find-some (last ∷ []) x own in
      rw (past_the_last xs is) (slice_get-push xs last ∙ by among.0)
    where
      by : IsIn (last ∷ []) x → ◌≡◌ {A = Option X} (Some last) (Some x)
      by (zero, at) = at
      by (suc place, at) = cc

  -- What is found in a list and one element more stands where it is found in the list, or else last.
  pub find-with_last : (xs : List X) (last x : X) → find test (xs ++ last ∷ []) ≡ Some x → slice_get (xs ++ last ∷ []) (unwrap_or (position test xs) (length xs)) ≡ Some x
  find-with_last xs last x found = rw (number-is xs) (last_step xs last x found _ refl)
