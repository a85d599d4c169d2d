-- Beginnings of lists, and the longer of two.
use Rattle.std.proofs.Common.{◌≡◌, ◌<◌, ◌≤◌, ◌⊎◌, inl, inr, List, [], ◌∷◌, ◌++◌, length, refl, sym, ap, ◌∙◌, append_assoc, append-nil, length-append, arith}
use Rattle.std.specs.Prelude.{Bool, true, false, ltb}
use mathlib.Core.List.{IsPrefix}
use Rattle.own_model.specs.declared.history.Entry.{Entry}
use Rattle.commit_turn.specs.Steps.{longer}

module _ {A : Type 0} where
  pub prefix_refl : (xs : List A) → IsPrefix xs xs
  prefix_refl xs = ([], append-nil xs)

  pub prefix_trans : (xs ys zs : List A) → IsPrefix xs ys → IsPrefix ys zs → IsPrefix xs zs
  prefix_trans xs ys zs p q = (p.0 ++ q.0, sym (append_assoc xs p.0 q.0) ∙ (ap (λ l. l ++ q.0) p.1 ∙ q.1))

  pub prefix_length : (xs ys : List A) → IsPrefix xs ys → length xs ≤ length ys
  prefix_length xs ys p = let e = ap length p.1 in let m = length-append xs p.0 in omega arith

  -- a beginning as long as the whole is the whole
  pub prefix_whole : (xs ys : List A) → IsPrefix xs ys → length xs ≡ length ys → xs ≡ ys
  prefix_whole xs ys p e = let m = length-append xs p.0 in let l = ap length p.1 in let n : length p.0 ≡ 0 = omega arith in
      sym (append-nil xs) ∙ (ap (λ t. xs ++ t) (sym (none p.0 n)) ∙ p.1)
    where
      none : (t : List A) → length t ≡ 0 → t ≡ []
      none [] e = refl
      none (x ∷ t) e = absurd (omega arith)

  -- of two beginnings of one list the shorter begins the longer
  pub prefix_both : (xs ys zs : List A) → IsPrefix xs zs → IsPrefix ys zs → length xs ≤ length ys → IsPrefix xs ys
  prefix_both [] ys zs p q le = (ys, refl)
  prefix_both (x ∷ xs) [] zs p q le = absurd (omega arith)
  prefix_both (x ∷ xs) (y ∷ ys) [] p q le = let never : ⊥ = cc in absurd never
  prefix_both (x ∷ xs) (y ∷ ys) (z ∷ zs) p q le =
      let a : (x ≡ z) × (xs ++ p.0 ≡ zs) = grind arith in
      let b : (y ≡ z) × (ys ++ q.0 ≡ zs) = grind arith in
      let r = prefix_both xs ys zs (p.0, a.1) (q.0, b.1) (omega arith) in
      (r.0, (λ i. (a.0 ∙ sym b.0) i ∷ r.1 i))

pub longer_is : (one other : List Entry) → ((length one < length other) × (longer one other ≡ other)) ⊎ ((length other ≤ length one) × (longer one other ≡ one))
longer_is one other = by (ltb (length one) (length other)) refl
  where
    by : (b : Bool) → ltb (length one) (length other) ≡ b → ((length one < length other) × (longer one other ≡ other)) ⊎ ((length other ≤ length one) × (longer one other ≡ one))
    by true is = inl (grind arith, rw is refl)
    by false is = inr (grind arith, rw is refl)
