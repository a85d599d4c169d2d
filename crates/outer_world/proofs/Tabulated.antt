-- Bytes given place by place, and lists that are the same at each place.
use Rattle.std.proofs.Common.{◌≡◌, ℕ, zero, suc, ◌+◌, ◌-◌, ◌≤◌, ◌<◌, List, [], ◌∷◌, length, take, drop, min, get_or, refl, sym, ◌∙◌, ap, arith, length-take, length-drop}
use Rattle.std.proofs.lemmas.List.{ext_get_or, get_or-take, get_or-drop}

-- so many bytes, each as the function gives it at its place
abbrev pub tabulated : (ℕ → ℕ) → ℕ → List ℕ
tabulated byte zero = []
tabulated byte (suc count) = byte 0 ∷ tabulated (λ place. byte (suc place)) count

pub length-tabulated : (byte : ℕ → ℕ) (count : ℕ) → length (tabulated byte count) ≡ count
length-tabulated byte zero = refl
length-tabulated byte (suc count) = ap suc (length-tabulated (λ place. byte (suc place)) count)

pub get_or-tabulated : (byte : ℕ → ℕ) (count place : ℕ) → place < count → get_or (tabulated byte count) place 0 ≡ byte place
get_or-tabulated byte zero place within = absurd (omega arith)
get_or-tabulated byte (suc count) zero within = refl
get_or-tabulated byte (suc count) (suc place) within = get_or-tabulated (λ p. byte (suc p)) count place (omega arith)

-- the same in front
pub same_front : (xs ys : List ℕ) (count : ℕ) → min count (length xs) ≡ min count (length ys)
    → ((place : ℕ) → place < count → place < length xs → get_or xs place 0 ≡ get_or ys place 0) → take count xs ≡ take count ys
same_front xs ys count long same =
    ext_get_or 0 (take count xs) (take count ys) (length-take count xs ∙ long ∙ sym (length-take count ys)) (λ place within.
    let in_count : place < count = omega (arith, length-take count xs) in
    let in_xs : place < length xs = omega (arith, length-take count xs) in
    get_or-take count xs place 0 in_count ∙ same place in_count in_xs ∙ sym (get_or-take count ys place 0 in_count))

-- the same behind
pub same_behind : (xs ys : List ℕ) (count : ℕ) → length xs - count ≡ length ys - count
    → ((place : ℕ) → count ≤ place → place < length xs → get_or xs place 0 ≡ get_or ys place 0) → drop count xs ≡ drop count ys
same_behind xs ys count long same =
    ext_get_or 0 (drop count xs) (drop count ys) (length-drop count xs ∙ long ∙ sym (length-drop count ys)) (λ place within.
    let in_xs : count + place < length xs = omega (arith, length-drop count xs) in
    get_or-drop count xs place 0 ∙ same (count + place) (omega arith) in_xs ∙ sym (get_or-drop count ys place 0))
