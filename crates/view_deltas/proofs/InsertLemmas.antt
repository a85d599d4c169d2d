-- Rows that are put one after another.
use Rattle.std.proofs.Common.{◌≡◌, ℕ, zero, suc, ◌+◌, sym, ◌∙◌, ap, List, [], ◌∷◌, ◌++◌, map, take, Option, Some, None, arith}
use Rattle.std.specs.Prelude.{slice_get}
use Rattle.std.proofs.lemmas.List.{map-append}

take_got : {X : Type 0} (xs : List X) (n : ℕ) (x : X) → slice_get xs n ≡ Some x → take (n + 1) xs ≡ take n xs ++ x ∷ []
take_got {X} [] n x is = let never : ◌≡◌ {A = Option X} None (Some x) = is in absurd (cc)
take_got (first ∷ xs) zero x is = let same : first ≡ x = cc in ap (λ y. y ∷ []) same
take_got (first ∷ xs) (suc n) x is =
    let next : suc n + 1 ≡ suc (n + 1) = omega arith in
    ap (λ m. take m (first ∷ xs)) next ∙ ap (λ rest. first ∷ rest) (take_got xs n x is)

-- one more is put
pub made_next : {X Y : Type 0} (f : X → Y) (xs : List X) (n : ℕ) (x : X) (made more : List Y) (y : Y) → slice_get xs n ≡ Some x → y ≡ f x → more ≡ made ++ y ∷ [] → made ≡ map f (take n xs)
    → more ≡ map f (take (n + 1) xs)
made_next f xs n x made more y is of added so_far =
    added
    ∙ (ap (λ front. front ++ y ∷ []) so_far
    ∙ (ap (λ last. map f (take n xs) ++ last ∷ []) of ∙ sym (ap (map f) (take_got xs n x is) ∙ map-append f (take n xs) (x ∷ []))))
