-- What stands at the places of a list.
use Rattle.std.proofs.Common.{◌≡◌, ℕ, zero, suc, ◌+◌, ◌<◌, List, [], ◌∷◌, ◌++◌, map, length, Bool, true, false, ◌||◌, inl, inr, refl, ap, arith}
use Rattle.std.specs.Prelude.{◌⊎◌, Option, Some, None, slice_get, filter, filter_map, flat_map}
use Rattle.std.specs.List.{AllByRecursion, cons_option, enumerate_from, list_any, range_with_len}

module _ {X : Type 0} where
  -- an element of a list, at some place
  abbrev pub IsIn : List X → X → Type 0
  IsIn xs x = (place : ℕ) × (slice_get xs place ≡ Some x)

  -- what holds of each element holds of the one at a place
  pub all-at : (P : X → Type 0) (xs : List X) → AllByRecursion P xs → (place : ℕ) (x : X) → slice_get xs place ≡ Some x → P x
  all-at P [] all place x is = cc
  all-at P (first ∷ xs) all zero x is = let same : first ≡ x = cc in rw (← same) all.0
  all-at P (first ∷ xs) all (suc place) x is = all-at P xs all.1 place x is

  -- and what holds at each place holds of each element
  pub all-from_places : (P : X → Type 0) (xs : List X) → ((place : ℕ) (x : X) → slice_get xs place ≡ Some x → P x) → AllByRecursion P xs
  all-from_places P [] each = tt
  all-from_places P (first ∷ xs) each = (each 0 first refl, all-from_places P xs (λ place x is. each (suc place) x is))

  -- of two lists in a row
  pub all-append : (P : X → Type 0) (xs ys : List X) → AllByRecursion P xs → AllByRecursion P ys → AllByRecursion P (xs ++ ys)
  all-append P [] ys all more = more
  all-append P (first ∷ xs) ys all more = (all.0, all-append P xs ys all.1 more)

  -- and of what follows from it
  pub all-weaker : (P Q : X → Type 0) → ((x : X) → P x → Q x) → (xs : List X) → AllByRecursion P xs → AllByRecursion Q xs
  all-weaker P Q weaker [] all = tt
  all-weaker P Q weaker (first ∷ xs) all = (weaker first all.0, all-weaker P Q weaker xs all.1)

  -- what is at a place stays there as the list grows
  pub slice_get-append : (xs ys : List X) (place : ℕ) (x : X) → slice_get xs place ≡ Some x → slice_get (xs ++ ys) place ≡ Some x
  slice_get-append [] ys place x is = cc
  slice_get-append (first ∷ xs) ys zero x is = is
  slice_get-append (first ∷ xs) ys (suc place) x is = slice_get-append xs ys place x is

  -- and what is added stands after it
  pub slice_get-append_after : (xs ys : List X) (place : ℕ) (x : X) → slice_get ys place ≡ Some x → slice_get (xs ++ ys) (length xs + place) ≡ Some x
  slice_get-append_after [] ys place x is = let n : 0 + place ≡ place = omega arith in rw n is
  slice_get-append_after (first ∷ xs) ys place x is =
      let n : suc (length xs) + place ≡ suc (length xs + place) = omega arith in rw n (slice_get-append_after xs ys place x is)

  -- below the length the longer list has no other
  pub slice_get-append_below : (xs ys : List X) (place : ℕ) → place < length xs → slice_get (xs ++ ys) place ≡ slice_get xs place
  slice_get-append_below [] ys place below = absurd (omega arith)
  slice_get-append_below (first ∷ xs) ys zero below = refl
  slice_get-append_below (first ∷ xs) ys (suc place) below = slice_get-append_below xs ys place (omega arith)

  -- an element of two lists in a row is one of them
  pub in_append : (xs ys : List X) (x : X) → IsIn (xs ++ ys) x → IsIn xs x ⊎ IsIn ys x
  in_append [] ys x among = inr among
  in_append (first ∷ xs) ys x (zero, is) = inl (0, is)
  in_append (first ∷ xs) ys x (suc place, is) = by (in_append xs ys x (place, is))
    where
      by : IsIn xs x ⊎ IsIn ys x → IsIn (first ∷ xs) x ⊎ IsIn ys x
      by (inl own) = inl (suc own.0, own.1)
      by (inr more) = inr more

  -- the last one
  pub slice_get-push : (xs : List X) (x : X) → slice_get (xs ++ x ∷ []) (length xs) ≡ Some x
  slice_get-push [] x = refl
  slice_get-push (first ∷ xs) x = slice_get-push xs x

  -- a place below the length has something
  pub at-place : (xs : List X) (place : ℕ) → place < length xs → (x : X) × (slice_get xs place ≡ Some x)
  at-place [] place below = absurd (omega arith)
  at-place (first ∷ xs) zero below = (first, refl)
  at-place (first ∷ xs) (suc place) below = at-place xs place (omega arith)

  -- a place that has something is below the length
  pub place-lt : (xs : List X) (place : ℕ) (x : X) → slice_get xs place ≡ Some x → place < length xs
  place-lt [] place x is = cc
  place-lt (first ∷ xs) zero x is = omega arith
  place-lt (first ∷ xs) (suc place) x is = let later = place-lt xs place x is in omega arith

  -- two elements at one place are one
  pub same-place : (xs : List X) (place : ℕ) (one other : X) → slice_get xs place ≡ Some one → slice_get xs place ≡ Some other → one ≡ other
  same-place xs place one other is also = cc

-- what stands at a place of a list of images
pub slice_get-of_map : {X Y : Type 0} (f : X → Y) (xs : List X) (place : ℕ) (y : Y) → slice_get (map f xs) place ≡ Some y
    → (x : X) × (slice_get xs place ≡ Some x) × (f x ≡ y)
slice_get-of_map f [] place y is = let never : ⊥ = cc in absurd never
slice_get-of_map f (first ∷ xs) zero y is = (first, refl, cc)
slice_get-of_map f (first ∷ xs) (suc place) y is = slice_get-of_map f xs place y is

-- an image stands where what it is of does
pub slice_get-in_map : {X Y : Type 0} (f : X → Y) (xs : List X) (place : ℕ) (x : X) → slice_get xs place ≡ Some x → slice_get (map f xs) place ≡ Some (f x)
slice_get-in_map f [] place x is = cc
slice_get-in_map f (first ∷ xs) zero x is = let same : first ≡ x = cc in ap (λ x. Some (f x)) same
slice_get-in_map f (first ∷ xs) (suc place) x is = slice_get-in_map f xs place x is

-- elements with their numbers
pub slice_get-enumerate_from : {X : Type 0} (number : ℕ) (xs : List X) (place : ℕ) (numbered : ℕ × X) → slice_get (enumerate_from number xs) place ≡ Some numbered
    → (numbered.0 ≡ number + place) × (slice_get xs place ≡ Some numbered.1)
slice_get-enumerate_from number [] place numbered is = let never : ⊥ = cc in absurd never
slice_get-enumerate_from number (first ∷ xs) zero numbered is =
    let same : (number, first) ≡ numbered = cc in (let n = ap (λ p. p.0) same in omega arith, ap (λ p. Some p.1) same)
slice_get-enumerate_from number (first ∷ xs) (suc place) numbered is =
    let later = slice_get-enumerate_from (number + 1) xs place numbered is in (let n = later.0 in omega arith, later.1)

-- the numbers of elements that are numbered in a row are a range
pub enumerate_from-range : {X : Type 0} (number : ℕ) (xs : List X) → map (λ numbered. numbered.0) (enumerate_from number xs) ≡ range_with_len number (length xs)
enumerate_from-range number [] = refl
enumerate_from-range number (first ∷ xs) = ap (λ rest. number ∷ rest) (enumerate_from-range (number + 1) xs)

-- a range and the one that follows it
pub range-append : (from front back middle : ℕ) → middle ≡ from + front → range_with_len from front ++ range_with_len middle back ≡ range_with_len from (front + back)
range-append from zero back middle is = let e : from ≡ middle = omega arith in let n : zero + back ≡ back = omega arith in cc
range-append from (suc front) back middle is =
    let rest = range-append (from + 1) front back middle (omega arith) in
    let n : suc front + back ≡ suc (front + back) = omega arith in
    rw n (ap (λ rest. from ∷ rest) rest)

-- two lists in a row are empty where both are
pub append-none : {Y : Type 0} (xs ys : List Y) → xs ++ ys ≡ [] → (xs ≡ []) × (ys ≡ [])
append-none [] ys none = (refl, none)
append-none (first ∷ xs) ys none = let never : ⊥ = cc in absurd never

in_range_from : (from len offset number : ℕ) → offset < len → number ≡ from + offset → IsIn (range_with_len from len) number
in_range_from from zero offset number below is = absurd (omega arith)
in_range_from from (suc len) zero number below is = (0, let n : from ≡ number = omega arith in ap (λ n. Some n) n)
in_range_from from (suc len) (suc offset) number below is =
    let later = in_range_from (from + 1) len offset number (omega arith) (omega arith) in (suc later.0, later.1)

-- a number stands in the range up to a greater one
pub in_range : (len number : ℕ) → number < len → IsIn (range_with_len 0 len) number
in_range len number below = in_range_from 0 len number number below (omega arith)

module _ {X Y : Type 0} where
  -- a list of images is empty where the list is
  pub map-none : (f : X → Y) (xs : List X) → map f xs ≡ [] → xs ≡ []
  map-none f [] none = refl
  map-none f (first ∷ xs) none = cc

  -- so are the lists of each element
  pub flat_map-none : (f : X → List Y) (xs : List X) → flat_map f xs ≡ [] → AllByRecursion (λ x. f x ≡ []) xs
  flat_map-none f [] none = tt
  flat_map-none f (first ∷ xs) none =
      let both = append-none (f first) (flat_map f xs) none in (both.0, flat_map-none f xs both.1)

module _ {X : Type 0} (test : X → Bool) where
  filter_step : (first : X) (xs : List X) → filter test (first ∷ xs) ≡ [] → (filter test xs ≡ [] → AllByRecursion (λ x. test x ≡ false) xs)
      → (b : Bool) → test first ≡ b → AllByRecursion (λ x. test x ≡ false) (first ∷ xs)
  filter_step first xs none more true is = let never : ◌≡◌ {A = List X} (first ∷ filter test xs) [] = rw is at none in cc
  filter_step first xs none more false is = (is, more (rw is at none))

  -- where no element is kept, each fails the test
  pub filter-none : (xs : List X) → filter test xs ≡ [] → AllByRecursion (λ x. test x ≡ false) xs
  filter-none [] none = tt
  filter-none (first ∷ xs) none = filter_step first xs none (filter-none xs) _ refl

  passes_step : (first : X) (xs : List X) (x : X) → IsIn (filter test (first ∷ xs)) x → (IsIn (filter test xs) x → test x ≡ true)
      → (b : Bool) → test first ≡ b → test x ≡ true
  passes_step first xs x among more true is = by (rw is at among)
    where
      by : IsIn (first ∷ filter test xs) x → test x ≡ true
      by (zero, at) = let same : first ≡ x = cc in rw (← same) is
      by (suc place, at) = more (place, at)
  passes_step first xs x among more false is = more (rw is at among)

  -- what is kept passes
  pub filter-passes : (xs : List X) (x : X) → IsIn (filter test xs) x → test x ≡ true
  filter-passes [] x (place, is) = cc
  filter-passes (first ∷ xs) x among = passes_step first xs x among (filter-passes xs x) _ refl

  kept_step : (first : X) (xs : List X) (x : X) → IsIn (filter test (first ∷ xs)) x → (IsIn (filter test xs) x → IsIn xs x)
      → (b : Bool) → test first ≡ b → IsIn (first ∷ xs) x
  kept_step first xs x among more true is = by (rw is at among)
    where
      by : IsIn (first ∷ filter test xs) x → IsIn (first ∷ xs) x
      by (zero, at) = (0, at)
      by (suc place, at) = let later = more (place, at) in (suc later.0, later.1)
  kept_step first xs x among more false is = let later = more (rw is at among) in (suc later.0, later.1)

  -- and stands in the list
  pub in_filter : (xs : List X) (x : X) → IsIn (filter test xs) x → IsIn xs x
  in_filter [] x among = among
  in_filter (first ∷ xs) x among = kept_step first xs x among (in_filter xs x) _ refl

  any_step : (first : X) (xs : List X) → list_any test (first ∷ xs) ≡ true → (list_any test xs ≡ true → (x : X) × IsIn xs x × (test x ≡ true))
      → (b : Bool) → test first ≡ b → (x : X) × IsIn (first ∷ xs) x × (test x ≡ true)
  any_step first xs any more true is = (first, (0, refl), is)
  any_step first xs any more false is = let later = more (rw is at any) in (later.0, (suc later.1.0, later.1.1), later.2)

  -- where some element passes, it stands at a place
  pub any-place : (xs : List X) → list_any test xs ≡ true → (x : X) × IsIn xs x × (test x ≡ true)
  any-place [] any = let never : ⊥ = cc in absurd never
  any-place (first ∷ xs) any = any_step first xs any (any-place xs) _ refl

  -- where each fails, none passes
  pub any-none : (xs : List X) → AllByRecursion (λ x. test x ≡ false) xs → list_any test xs ≡ false
  any-none [] all = refl
  any-none (first ∷ xs) all = let rest = any-none xs all.1 in rw (all.0, rest) refl

  -- an element that passes, at a place
  pub any-at : (xs : List X) (place : ℕ) (x : X) → slice_get xs place ≡ Some x → test x ≡ true → list_any test xs ≡ true
  any-at [] place x is passes = cc
  any-at (first ∷ xs) zero x is passes = let same : first ≡ x = cc in rw (same, passes) refl
  any-at (first ∷ xs) (suc place) x is passes = let later = any-at xs place x is passes in rw later (or-true (test first))
    where
      or-true : (b : Bool) → (b || true) ≡ true
      or-true true = refl
      or-true false = refl

module _ {X Y : Type 0} where
  -- what is made of an element stands in the list of what is made
  pub in_filter_map : (h : X → Option Y) (xs : List X) (x : X) (y : Y) → IsIn xs x → h x ≡ Some y → IsIn (filter_map h xs) y
  in_filter_map h [] x y (place, is) gives = let never : ⊥ = cc in absurd never
  in_filter_map h (first ∷ xs) x y (zero, is) gives = let same : first ≡ x = cc in (0, rw (same, gives) refl)
  in_filter_map h (first ∷ xs) x y (suc place, is) gives = by (h first) (in_filter_map h xs x y (place, is) gives)
    where
      by : (o : Option Y) → IsIn (filter_map h xs) y → IsIn (cons_option o (filter_map h xs)) y
      by None later = later
      by (Some one) (place, is) = (suc place, is)

  -- an element of the lists of each element is one of some element's
  pub in_flat_map : (f : X → List Y) (xs : List X) (y : Y) → IsIn (flat_map f xs) y → (x : X) × IsIn xs x × IsIn (f x) y
  in_flat_map f [] y (place, is) = let never : ⊥ = cc in absurd never
  in_flat_map f (first ∷ xs) y among = by (in_append (f first) (flat_map f xs) y among) (in_flat_map f xs y)
    where
      by : IsIn (f first) y ⊎ IsIn (flat_map f xs) y → (IsIn (flat_map f xs) y → (x : X) × IsIn xs x × IsIn (f x) y) → (x : X) × IsIn (first ∷ xs) x × IsIn (f x) y
      by (inl own) more = (first, (0, refl), own)
      by (inr later) more = let from = more later in (from.0, (suc from.1.0, from.1.1), from.2)

  made_step : (h : X → Option Y) (first : X) (xs : List X) (y : Y) → (IsIn (filter_map h xs) y → (x : X) × IsIn xs x × (h x ≡ Some y))
      → (o : Option Y) → h first ≡ o → IsIn (cons_option o (filter_map h xs)) y → (x : X) × IsIn (first ∷ xs) x × (h x ≡ Some y)
  made_step h first xs y more None is among = let from = more among in (from.0, (suc from.1.0, from.1.1), from.2)
  made_step h first xs y more (Some one) is (zero, at) = let same : one ≡ y = cc in (first, (0, refl), rw (← same) is)
  made_step h first xs y more (Some one) is (suc place, at) = let from = more (place, at) in (from.0, (suc from.1.0, from.1.1), from.2)

  -- an element of what is made is made of some element
  pub of_filter_map : (h : X → Option Y) (xs : List X) (y : Y) → IsIn (filter_map h xs) y → (x : X) × IsIn xs x × (h x ≡ Some y)
  of_filter_map h [] y (place, is) = let never : ⊥ = cc in absurd never
  of_filter_map h (first ∷ xs) y among = made_step h first xs y (of_filter_map h xs y) _ refl among
