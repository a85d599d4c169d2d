-- Numbered items, one after another.
use Rattle.std.proofs.Common.{◌≡◌, ℕ, ◌+◌, List, ◌∷◌, drop, Bool, true, false, ap, sym, ◌∙◌}
use Rattle.std.specs.Prelude.{◌||◌, Some, slice_get}
use Rattle.std.specs.List.{enumerate_from, list_any}
use Rattle.std.proofs.lemmas.List.{drop_more}
use Rattle.std.proofs.lemmas.Option.{get_or_from_slice_get}
use Rattle.schema_model.proofs.Places.{place-lt}

module _ {X : Type 0} (test : ℕ × X → Bool) (xs : List X) (at : ℕ) where
  any-step : (x : X) → slice_get xs at ≡ Some x → list_any test (enumerate_from at (drop at xs)) ≡ (test (at, x) || list_any test (enumerate_from (at + 1) (drop (at + 1) xs)))
  any-step x is =
      let dropped : drop at xs ≡ x ∷ drop (at + 1) xs = drop_more xs at x (place-lt xs at x is) ∙ ap (λ y. y ∷ drop (at + 1) xs) (get_or_from_slice_get xs at x x is) in
      ap (λ rest. list_any test (enumerate_from at rest)) dropped

  -- an item that passes is found
  pub any-found : (x : X) → slice_get xs at ≡ Some x → test (at, x) ≡ true → list_any test (enumerate_from at (drop at xs)) ≡ true
  any-found x is passes = any-step x is ∙ ap (λ b. b || list_any test (enumerate_from (at + 1) (drop (at + 1) xs))) passes

  -- and one that doesn't is passed
  pub any-passed : (x : X) → slice_get xs at ≡ Some x → test (at, x) ≡ false → list_any test (enumerate_from (at + 1) (drop (at + 1) xs)) ≡ list_any test (enumerate_from at (drop at xs))
  any-passed x is fails = sym (any-step x is ∙ ap (λ b. b || list_any test (enumerate_from (at + 1) (drop (at + 1) xs))) fails)
