-- The first faults of an UPDATE, one after another.
use Rattle.std.proofs.Common.{◌≡◌, ℕ, ◌+◌, ◌<◌, List, [], ◌∷◌, ◌++◌, length, get_or, map, take, Option, Some, None, refl, sym, ap, ◌∙◌}
use Rattle.std.specs.List.{flat_map}
use Rattle.std.proofs.lemmas.List.{append-nil, take_more}
use Rattle.std.proofs.lemmas.Grind.{flat_map-append}
use Rattle.own_model.specs.declared.refusal.Refusal.{Refusal}
use Rattle.state_model.specs.Fault.{first_of}
use Rattle.write_eval.specs.FirstFaults.{Faults, none_yet, or_first, reported, with_faults}

-- what comes first of two lists
or_first-append : (first : Option Refusal) (faults more : List Refusal) → or_first (or_first first faults) more ≡ or_first first (faults ++ more)
or_first-append (Some fault) faults more = refl
or_first-append None [] more = refl
or_first-append None (fault ∷ faults) more = refl

with_more : (first : Faults) (nulls ranges more_nulls more_ranges : List Refusal)
    → with_faults (with_faults first nulls ranges) more_nulls more_ranges ≡ with_faults first (nulls ++ more_nulls) (ranges ++ more_ranges)
with_more first nulls ranges more_nulls more_ranges =
    rw (or_first-append first.null nulls more_nulls, or_first-append first.range ranges more_ranges) refl

-- the faults of one member more
module _ {X : Type 0} (nulls ranges : X → List Refusal) (xs : List X) (i : ℕ) (x : X) (within : i < length xs) (here : x ≡ get_or xs i x) where
  flat_map-next : (faults : X → List Refusal) → flat_map faults (take (i + 1) xs) ≡ flat_map faults (take i xs) ++ faults x
  flat_map-next faults =
      ap (flat_map faults) (take_more xs i x within ∙ ap (λ y. take i xs ++ y ∷ []) (sym here)) ∙ (flat_map-append faults (take i xs) (x ∷ []) ∙ rw append-nil refl)

  pub next_faults : (first before after : Faults) → before ≡ with_faults first (flat_map nulls (take i xs)) (flat_map ranges (take i xs))
      → after ≡ with_faults before (nulls x) (ranges x)
      → after ≡ with_faults first (flat_map nulls (take (i + 1) xs)) (flat_map ranges (take (i + 1) xs))
  next_faults first before after so_far is =
      rw (flat_map-next nulls, flat_map-next ranges)
      (is ∙ (ap (λ faults. with_faults faults (nulls x) (ranges x)) so_far ∙ with_more first (flat_map nulls (take i xs)) (flat_map ranges (take i xs)) (nulls x) (ranges x)))

-- the faults of rows that are lent
pub flat_map-lent : {X Y : Type 0} (of : X → Y) (faults : Y → List Refusal) (xs : List X) → flat_map faults (map of xs) ≡ flat_map (λ x. faults (of x)) xs
flat_map-lent of faults [] = refl
flat_map-lent of faults (x ∷ xs) = ap (λ more. faults (of x) ++ more) (flat_map-lent of faults xs)

-- NULLs are reported before sums
pub reported_first : (nulls ranges : List Refusal) → reported (with_faults none_yet nulls ranges) ≡ first_of (nulls ++ ranges)
reported_first [] [] = refl
reported_first [] (fault ∷ ranges) = refl
reported_first (fault ∷ nulls) ranges = refl
