-- Tests that pass together.
use Rattle.std.proofs.Common.{◌≡◌, ◌∙◌, ℕ, ◌+◌, ◌<◌, List, [], ◌∷◌, Bool, true, false, ap, get_or, length, refl, sym, take, ◌||◌}
use Rattle.std.specs.Prelude.{◌&&◌}
use Rattle.std.specs.List.{list_all, list_any}
use Rattle.std.proofs.lemmas.List.Folds.{list_all_more, list_any_more}
use Rattle.std.proofs.Math.Bool.{or_assoc}

-- who reads, and who writes
pub read : (x w : Bool) → ((x && (w || false)) || false) ≡ (x && w)
read true true = refl
read true false = refl
read false w = refl

pub written : (x w : Bool) → ((x && (w || true)) || false) ≡ (x && true)
written true true = refl
written true false = refl
written false w = refl

-- one table's row, and its other rows
pub of_table : (t k b r : Bool) → (((t && k) && b) || (t && r)) ≡ (t && ((k && b) || r))
of_table true k b r = refl
of_table false k b r = refl

-- held more strongly
pub joined : (k b x r : Bool) → ((k && (b || x)) || r) ≡ (((k && b) || r) || (k && x))
joined true true x true = refl
joined true true x false = refl
joined true false true true = refl
joined true false true false = refl
joined true false false true = refl
joined true false false false = refl
joined false b x true = refl
joined false b x false = refl

-- what passes one test passes a weaker one
all_later : {X : Type 0} (p q : X → Bool) → ((x : X) → p x ≡ true → q x ≡ true) → (xs : List X) → list_all p xs ≡ true → list_all q xs ≡ true
all_later p q kept [] all = refl
all_later {X} p q kept (x ∷ xs) all = by (p x) refl all (all_later p q kept xs)
  where
    by : (b : Bool) → p x ≡ b → (b && list_all p xs) ≡ true → (list_all p xs ≡ true → list_all q xs ≡ true) → list_all q (x ∷ xs) ≡ true
    by true passes rest later = rw (kept x passes) (later rest)
    by false passes rest later = cc

-- one more passes, or is tried
module _ {X : Type 0} (items : List X) (place : ℕ) (item : X) (within : place < length items) (is : item ≡ get_or items place item) where
  pub all_more : (p q : X → Bool) → ((x : X) → p x ≡ true → q x ≡ true) → list_all p (take place items) ≡ true → q item ≡ true → list_all q (take (place + 1) items) ≡ true
  all_more p q kept all own = list_all_more q items place item within ∙ rw (all_later p q kept (take place items) all, ← is) own

  pub any_more : (p : X → Bool) (b : Bool) → ((b || list_any p (take place items)) || p item) ≡ (b || list_any p (take (place + 1) items))
  any_more p b =
      sym (ap (λ (rest : Bool). b || rest) (list_any_more p items place item within ∙ ap (λ x. list_any p (take place items) || p x) (sym is)) ∙ sym (or_assoc b (list_any p (take place items)) (p item)))
