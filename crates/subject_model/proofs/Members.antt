-- What stands in a list that is made of others.
use Rattle.std.proofs.Common.{◌≡◌, zero, suc, List, [], ◌∷◌, map, Bool, true, false, cond, ◌||◌, inl, inr, refl, ap, ◌∙◌, sym, subst, arith}
use Rattle.std.specs.Prelude.{◌⊎◌, Contains, filter, flat_map}
use Rattle.std.specs.List.{AllByRecursion, list_all, list_any}
use Rattle.std.proofs.lemmas.Bool.{and_from, and_parts, or_left, or_right}
use Rattle.std.proofs.lemmas.List.Elements.{Contains-append_cases, Contains-append_left, Contains-append_right}

module _ {X : Type 0} where
  -- the first element
  pub contains_here : (x : X) (xs : List X) → Contains (x ∷ xs) x
  contains_here x xs = (0, omega arith, refl)

  -- and those after it
  pub contains_later : (first : X) (xs : List X) (x : X) → Contains xs x → Contains (first ∷ xs) x
  contains_later first xs x (place, within, is) = (suc place, omega arith, is)

  -- there are no others
  pub contains_none : (x : X) → Contains [] x → ⊥
  contains_none x (place, within, is) = absurd (omega arith)

  pub contains_cases : (first : X) (xs : List X) (x : X) → Contains (first ∷ xs) x → (first ≡ x) ⊎ Contains xs x
  contains_cases first xs x (zero, within, is) = inl is
  contains_cases first xs x (suc place, within, is) = inr (place, omega arith, is)

  -- what is true of each element is true of one that the list contains
  pub all_contained : (P : X → Type 0) (xs : List X) (x : X) → AllByRecursion P xs → Contains xs x → P x
  all_contained P [] x all among = absurd (contains_none x among)
  all_contained P (first ∷ xs) x all among = elim (contains_cases first xs x among) [ inl here ↦ subst P here all.0 | inr later ↦ all_contained P xs x all.1 later ]

  pub all_from_contained : (P : X → Type 0) (xs : List X) → ((x : X) → Contains xs x → P x) → AllByRecursion P xs
  all_from_contained P [] each = tt
  all_from_contained P (first ∷ xs) each = (each first (contains_here first xs), all_from_contained P xs (λ x among. each x (contains_later first xs x among)))

module _ {X : Type 0} (test : X → Bool) where
  -- what passes a test is kept
  pub contains_filter : (xs : List X) (x : X) → Contains xs x → test x ≡ true → Contains (filter test xs) x
  contains_filter [] x among passes = absurd (contains_none x among)
  contains_filter (first ∷ xs) x among passes = by (contains_filter xs x) (contains_cases first xs x among) (test first) refl
    where
      by : (Contains xs x → test x ≡ true → Contains (filter test xs) x) → (first ≡ x) ⊎ Contains xs x → (b : Bool) → test first ≡ b → Contains (cond b (first ∷ filter test xs) (filter test xs)) x
      by more (inl here) true is = subst (Contains (first ∷ filter test xs)) here (contains_here first (filter test xs))
      by more (inl here) false is = let other = ap test here in cc
      by more (inr later) true is = contains_later first (filter test xs) x (more later passes)
      by more (inr later) false is = more later passes

  -- and nothing else
  pub contains_of_filter : (xs : List X) (x : X) → Contains (filter test xs) x → Contains xs x × (test x ≡ true)
  contains_of_filter [] x among = absurd (contains_none x among)
  contains_of_filter (first ∷ xs) x among = by (contains_of_filter xs x) (test first) refl among
    where
      by : (Contains (filter test xs) x → Contains xs x × (test x ≡ true)) → (b : Bool) → test first ≡ b → Contains (cond b (first ∷ filter test xs) (filter test xs)) x
          → Contains (first ∷ xs) x × (test x ≡ true)
      by more true is kept = elim (contains_cases first (filter test xs) x kept) [
        | inl here ↦ (subst (Contains (first ∷ xs)) here (contains_here first xs), subst (λ y. test y ≡ true) here is)
        | inr later ↦ (contains_later first xs x (more later).0, (more later).1)
      ]
      by more false is kept = (contains_later first xs x (more kept).0, (more kept).1)

  -- a list has an element that passes exactly where the test says so
  pub any_contained : (xs : List X) (x : X) → Contains xs x → test x ≡ true → list_any test xs ≡ true
  any_contained [] x among passes = absurd (contains_none x among)
  any_contained (first ∷ xs) x among passes = elim (contains_cases first xs x among) [
    | inl here ↦ or_left _ _ (ap test here ∙ passes)
    | inr later ↦ or_right _ _ (any_contained xs x later passes)
  ]

  pub contains_any : (xs : List X) → list_any test xs ≡ true → (x : X) × Contains xs x × (test x ≡ true)
  contains_any [] any = let never : false ≡ true = any in cc
  contains_any (first ∷ xs) any = by (contains_any xs) (test first) refl any
    where
      by : (list_any test xs ≡ true → (x : X) × Contains xs x × (test x ≡ true)) → (b : Bool) → test first ≡ b → (b || list_any test xs) ≡ true
          → (x : X) × Contains (first ∷ xs) x × (test x ≡ true)
      by more true is some = (first, contains_here first xs, is)
      by more false is some = let later = more some in (later.0, contains_later first xs later.0 later.1, later.2)

  -- each passes exactly where the test says so
  pub all_passes : (xs : List X) → list_all test xs ≡ true → AllByRecursion (λ x. test x ≡ true) xs
  all_passes [] all = tt
  all_passes (first ∷ xs) all = let both = and_parts (test first) (list_all test xs) all in (both.0, all_passes xs both.1)

  pub passes_all : (xs : List X) → AllByRecursion (λ x. test x ≡ true) xs → list_all test xs ≡ true
  passes_all [] all = refl
  passes_all (first ∷ xs) all = and_from _ _ all.0 (passes_all xs all.1)

module _ {X Y : Type 0} (f : X → Y) where
  -- a list of images has the image of each element
  pub contains_map : (xs : List X) (x : X) → Contains xs x → Contains (map f xs) (f x)
  contains_map [] x among = absurd (contains_none x among)
  contains_map (first ∷ xs) x among = elim (contains_cases first xs x among) [
    | inl here ↦ subst (λ y. Contains (map f (first ∷ xs)) (f y)) here (contains_here (f first) (map f xs))
    | inr later ↦ contains_later (f first) (map f xs) (f x) (contains_map xs x later)
  ]

  -- and nothing else
  pub contains_of_map : (xs : List X) (y : Y) → Contains (map f xs) y → (x : X) × Contains xs x × (f x ≡ y)
  contains_of_map [] y among = absurd (contains_none y among)
  contains_of_map (first ∷ xs) y among = elim (contains_cases (f first) (map f xs) y among) [
    | inl here ↦ (first, contains_here first xs, here)
    | inr later ↦ let from = contains_of_map xs y later in (from.0, contains_later first xs from.0 from.1, from.2)
  ]

module _ {X Y : Type 0} (f : X → List Y) where
  -- lists joined have what the list of an element has
  pub contains_flat_map : (xs : List X) (x : X) (y : Y) → Contains xs x → Contains (f x) y → Contains (flat_map f xs) y
  contains_flat_map [] x y among own = absurd (contains_none x among)
  contains_flat_map (first ∷ xs) x y among own = elim (contains_cases first xs x among) [
    | inl here ↦ Contains-append_left (f first) (flat_map f xs) y (subst (λ z. Contains (f z) y) (sym here) own)
    | inr later ↦ Contains-append_right (f first) (flat_map f xs) y (contains_flat_map xs x y later own)
  ]

  -- and nothing else
  pub contains_of_flat_map : (xs : List X) (y : Y) → Contains (flat_map f xs) y → (x : X) × Contains xs x × Contains (f x) y
  contains_of_flat_map [] y among = absurd (contains_none y among)
  contains_of_flat_map (first ∷ xs) y among = elim (Contains-append_cases (f first) (flat_map f xs) y among) [
    | inl own ↦ (first, contains_here first xs, own)
    | inr later ↦ let from = contains_of_flat_map xs y later in (from.0, contains_later first xs from.0 from.1, from.2)
  ]
