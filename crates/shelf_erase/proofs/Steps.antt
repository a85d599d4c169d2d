-- Items that are gone through, one after another.
use Rattle.std.proofs.Common.{◌≡◌, ℕ, ◌+◌, ◌-◌, ◌<◌, ◌≤◌, List, [], ◌∷◌, ◌++◌, length, length-append, length-drop, drop, get_or, map, take, Bool, true, false, inl, inr, refl, ap, sym, ◌∙◌, subst, append_assoc, arith}
use Rattle.std.specs.Prelude.{◌||◌, Contains}
use Rattle.std.specs.List.{list_any}
use Rattle.std.proofs.lemmas.List.{append-nil, drop-drop, drop_all, drop_at, drop_more, take_all, take_more}
use Rattle.std.proofs.lemmas.List.Elements.{Contains-append_cases}
use Rattle.std.proofs.lemmas.Option.{get_or_from_slice_get, slice_get-get_or}
use Rattle.page_model.specs.Run.{IsRunFrom}
use Rattle.subject_model.proofs.Members.{contains_cases, contains_none}

-- none of the first so many items is one
pub record NoneOf {X : Type 0} (Is : X → Type 0) (xs : List X) (count : ℕ) : Type 0 where
  pub none : (x : X) → Contains (take count xs) x → Is x → ⊥

module _ {X : Type 0} (Is : X → Type 0) (xs : List X) where
  pub none-start : NoneOf Is xs 0
  none-start = record { none = λ x among is. contains_none x among }

  pub none-more : (count : ℕ) (x : X) → count < length xs → x ≡ get_or xs count x → NoneOf Is xs count → (Is x → ⊥) → NoneOf Is xs (count + 1)
  none-more count x within next so_far fails = record {
    none = λ other among is. elim (Contains-append_cases (take count xs) (x ∷ []) other (subst (λ list. Contains list other) longer among)) [
      | inl before ↦ so_far.none other before is
      | inr last ↦ elim (contains_cases x [] other last) [ inl same ↦ fails (subst Is (sym same) is) | inr none ↦ contains_none other none ]
    ];
  }
    where
      longer : take (count + 1) xs ≡ take count xs ++ x ∷ []
      longer = take_more xs count x within ∙ ap (λ y. take count xs ++ y ∷ []) (sym next)

  pub none-end : (count : ℕ) → length xs ≤ count → NoneOf Is xs count → (x : X) → Contains xs x → Is x → ⊥
  none-end count all so_far x among = so_far.none x (subst (λ list. Contains list x) (sym (take_all count xs all)) among)

-- what is read at a place is there
pub read_at : {X : Type 0} (xs : List X) (i : ℕ) (d : X) → i < length xs → get_or xs i d ≡ get_or xs i (get_or xs i d)
read_at xs i d within = sym (get_or_from_slice_get xs i (get_or xs i d) (get_or xs i d) (slice_get-get_or xs i d within))

pub there_at : {X : Type 0} (xs : List X) (i : ℕ) (x : X) → i < length xs → x ≡ get_or xs i x → Contains xs x
there_at xs i x within is = (i, within, sym is)

-- the items before a place, which are lent in runs
pub record SoFar {X : Type 0} (items : List X) (count at : ℕ) (got : List X) : Type 0 where
  pub counted : count ≡ length items
  pub within : at ≤ count
  pub rest : got ++ drop at items ≡ items

pub so_far-start : {X : Type 0} (items : List X) (count : ℕ) → count ≡ length items → SoFar items count 0 []
so_far-start items count counted = record { counted = counted; within = omega arith; rest = refl }

module _ {X Y : Type 0} (f : Y → X) (items : List X) (count at : ℕ) (got more : List X) (entries : List Y) (so_far : SoFar items count at got)
    (run : IsRunFrom items at (map f entries)) (added : more ≡ got ++ map f entries) where
  counted_map : (ys : List Y) → length (map f ys) ≡ length ys
  counted_map [] = refl
  counted_map (y ∷ ys) = omega (arith, counted_map ys)

  -- a run doesn't go past the end
  pub run_within : at + length entries ≤ length items
  run_within =
      let parts : length items - at ≡ length (map f entries) + length run.rest = sym (length-drop at items) ∙ ap length run.follow ∙ length-append (map f entries) run.rest in
      omega (arith, parts, so_far.counted, so_far.within, counted_map entries)

  behind : drop (at + length entries) items ≡ run.rest
  behind = sym (drop-drop (length entries) at items) ∙ (ap (drop (length entries)) run.follow ∙ drop_at (map f entries) run.rest (length entries) (counted_map entries))

  pub so_far-more : SoFar items count (at + length entries) more
  so_far-more = record {
    counted = so_far.counted;
    within = omega (arith, run_within, so_far.counted);
    rest =
        ap (λ (front : List X). front ++ drop (at + length entries) items) added
        ∙ (append_assoc got (map f entries) (drop (at + length entries) items)
        ∙ (ap (λ (tail : List X). got ++ (map f entries ++ tail)) behind
        ∙ (ap (λ (tail : List X). got ++ tail) (sym run.follow) ∙ so_far.rest)));
  }

pub so_far-end : {X : Type 0} (items : List X) (count at : ℕ) (got : List X) → SoFar items count at got → count ≤ at → got ≡ items
so_far-end items count at got so_far all =
    sym (append-nil got) ∙ (ap (λ tail. got ++ tail) (sym (drop_all at items (omega (arith, so_far.counted)))) ∙ so_far.rest)

-- whether any passes, item by item
module _ {X : Type 0} (test : X → Bool) (xs : List X) (at : ℕ) where
  any_step : (x : X) → at < length xs → x ≡ get_or xs at x → list_any test (drop at xs) ≡ (test x || list_any test (drop (at + 1) xs))
  any_step x within is =
      let dropped : drop at xs ≡ x ∷ drop (at + 1) xs = drop_more xs at x within ∙ ap (λ y. y ∷ drop (at + 1) xs) (sym is) in
      ap (list_any test) dropped

  pub any_found : (x : X) → at < length xs → x ≡ get_or xs at x → test x ≡ true → list_any test (drop at xs) ≡ true
  any_found x within is passes = any_step x within is ∙ ap (λ b. b || list_any test (drop (at + 1) xs)) passes

  pub any_passed : (x : X) → at < length xs → x ≡ get_or xs at x → test x ≡ false → list_any test (drop (at + 1) xs) ≡ list_any test (drop at xs)
  any_passed x within is fails = sym (any_step x within is ∙ ap (λ b. b || list_any test (drop (at + 1) xs)) fails)

  pub any_none : length xs ≤ at → list_any test (drop at xs) ≡ false
  any_none all = ap (list_any test) (drop_all at xs all)
