-- The first and the last number of a range that pass a test.
use Rattle.std.proofs.Common.{◌≡◌, ℕ, zero, suc, ◌+◌, ◌<◌, ◌≤◌, [], ◌∷◌, Bool, true, false, refl, sym, ap, subst, ◌∙◌, inl, inr, arith}
use Rattle.std.specs.Prelude.{Option, Some, cond, filter, find}
use Rattle.std.specs.List.{last_or, range_with_len}
use Rattle.std.proofs.lemmas.Bool.{cases_order, cond-false, cond-true}

module _ (p : ℕ → Bool) where
  -- where none passes, none is left
  pub filter-none : (first count : ℕ) → ((n : ℕ) → first ≤ n → n < first + count → p n ≡ false) → filter p (range_with_len first count) ≡ []
  filter-none first zero none = refl
  filter-none first (suc count) none =
      cond-false (p first) _ _ (none first (omega arith) (omega arith)) ∙ filter-none (first + 1) count (λ n above below. none n (omega arith) (omega arith))

  last_step : (first count last : ℕ) (or : Option ℕ) (b : Bool) → p first ≡ b
      → last_or or (cond b (first ∷ filter p (range_with_len (first + 1) count)) (filter p (range_with_len (first + 1) count))) ≡ Some last
      → last_or or (filter p (range_with_len first (suc count))) ≡ Some last
  last_step first count last or b is found = rw is found

  -- one that passes is the last where none after it does
  pub last-filter : (first count last : ℕ) (or : Option ℕ) → first ≤ last → last < first + count → p last ≡ true
      → ((n : ℕ) → last < n → n < first + count → p n ≡ false) → last_or or (filter p (range_with_len first count)) ≡ Some last
  last-filter first zero last or above below passes none = absurd (omega arith)
  last-filter first (suc count) last or above below passes none =
      let rest : (o : Option ℕ) → first < last → last_or o (filter p (range_with_len (first + 1) count)) ≡ Some last =
      (λ o before. last-filter (first + 1) count last o (omega arith) (omega arith) passes (λ n after within. none n after (omega arith))) in
      let here : first ≡ last → last_or (Some first) (filter p (range_with_len (first + 1) count)) ≡ Some last =
      (λ is. ap (last_or (Some first)) (filter-none (first + 1) count (λ n after within. none n (omega arith) (omega arith))) ∙ ap Some is) in
      elim (cases_order first last) [
        | inl is ↦ last_step first count last or true (subst (λ n. p n ≡ true) (sym is) passes) (here is)
        | inr (inl before) ↦ elim (p first) as (λ b. p first ≡ b → last_or or (filter p (range_with_len first (suc count))) ≡ Some last) [
          | true ↦ λ is. last_step first count last or true is (rest (Some first) before)
          | false ↦ λ is. last_step first count last or false is (rest or before)
        ] refl
        | inr (inr after) ↦ absurd (omega arith)
      ]

  -- and the first where none before it does
  pub find-range : (first count found : ℕ) → first ≤ found → found < first + count → p found ≡ true
      → ((n : ℕ) → first ≤ n → n < found → p n ≡ false) → find p (range_with_len first count) ≡ Some found
  find-range first zero found above below passes none = absurd (omega arith)
  find-range first (suc count) found above below passes none =
      elim (cases_order first found) [
        | inl is ↦ cond-true (p first) _ _ (subst (λ n. p n ≡ true) (sym is) passes) ∙ ap Some is
        | inr (inl before) ↦ cond-false (p first) _ _ (none first (omega arith) before) ∙ find-range (first + 1) count found (omega arith) (omega arith) passes (λ n after within. none n (omega arith) within)
        | inr (inr after) ↦ absurd (omega arith)
      ]
