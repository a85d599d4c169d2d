-- Words that follow others, part by part.
use Rattle.std.proofs.Common.{◌≡◌, ◌<◌, ℕ, List, [], ◌∷◌, ◌++◌, length, get_or, drop, refl, sym, ap, ◌∙◌, arith, append-nil, append_assoc}
use Rattle.std.specs.List.{flat_map}
use Rattle.std.proofs.lemmas.Grind.{flat_map-append}
use Rattle.own_model.specs.declared.select.Select.{Select}
use Rattle.text_model.specs.Canonical.{select_words}
use Rattle.text_model.specs.Words.{Words, others, separated, spaced}
use Rattle.sql_print.specs.Spaces.{after_spaces}

-- the words of one after those of another
pub after_spaces-append : (first second : Words) → after_spaces (first ++ second) ≡ after_spaces first ++ after_spaces second
after_spaces-append first second = flat_map-append (λ word. 32 ∷ word) first second

-- the words of each part
pub after_spaces-parts : {A : Type 0} (words : A → Words) (parts : List A) → after_spaces (flat_map words parts) ≡ flat_map (λ part. after_spaces (words part)) parts
after_spaces-parts words [] = refl
after_spaces-parts words (part ∷ parts) = after_spaces-append (words part) (flat_map words parts) ∙ ap (λ l. after_spaces (words part) ++ l) (after_spaces-parts words parts)

-- the words of parts with a separator between, of which the first is this
pub after_spaces-separated : {A : Type 0} (separator : List ℕ) (words : A → Words) (parts : List A) (first : A) → 0 < length parts → first ≡ get_or parts 0 first
    → after_spaces (separated separator words parts) ≡ after_spaces (words first) ++ flat_map (λ part. after_spaces (separator ∷ words part)) (drop 1 parts)
after_spaces-separated separator words [] first some is = absurd (omega (arith, some))
after_spaces-separated separator words (part ∷ parts) first some is =
    after_spaces-append (words part) (others separator words parts)
    ∙ (λ i. after_spaces (words (sym is i)) ++ after_spaces-parts (λ part. separator ∷ words part) parts i)

-- the first word, and each other after a space
pub spaced-first : (first : List ℕ) (rest : Words) → spaced (first ∷ rest) ≡ first ++ after_spaces rest
unfolding spaced
spaced-first first [] = sym (append-nil first)
spaced-first first (second ∷ rest) = ap (λ l. first ++ 32 ∷ l) (spaced-first second rest)

-- three pieces, each after those before it
pub three-pieces : (old a b c : List ℕ) → ((old ++ a) ++ b) ++ c ≡ old ++ (a ++ (b ++ c))
three-pieces old a b c = simp append_assoc

-- four pieces
pub four-pieces : (old a b c d : List ℕ) → (((old ++ a) ++ b) ++ c) ++ d ≡ old ++ (a ++ (b ++ (c ++ d)))
four-pieces old a b c d = simp append_assoc

-- five pieces
pub five-pieces : (old a b c d e : List ℕ) → ((((old ++ a) ++ b) ++ c) ++ d) ++ e ≡ old ++ (a ++ (b ++ (c ++ (d ++ e))))
five-pieces old a b c d e = simp append_assoc

-- a select after a space
pub after_spaces-select : (select : Select) → after_spaces (select_words select) ≡ 32 ∷ spaced (select_words select)
unfolding select_words
after_spaces-select select = ap (λ l. 32 ∷ l) (sym (spaced-first _ _))
