-- A condition as it is written, by its variant.
use Rattle.std.proofs.Common.{◌≡◌, List, [], ◌∷◌, ◌++◌, ℕ, Bool, map, codes, refl, sym, ap, ◌∙◌}
use Rattle.std.proofs.lemmas.List.Folds.{flat_map-map}
use Rattle.own_model.specs.declared.condition.Cmp.{Cmp}
use Rattle.own_model.specs.declared.condition.Cond.{Cond}
use Rattle.own_model.specs.declared.condition.Cond.TheOpen.{Cond-F}
use Rattle.own_model.specs.declared.condition.Cond.TheFolds.{fold-roll-Cond}
use Rattle.own_model.specs.declared.condition.Cond.TheVariants.{Every, Some1, Not, Compare, IsNull, rolls-Every, rolls-Some1, rolls-Not, rolls-Compare, rolls-IsNull}
use Rattle.own_model.specs.declared.condition.Operand.{Operand}
use Rattle.own_model.specs.declared.select.ColRef.{ColRef}
use Rattle.text_model.specs.Condition.{Written, cmp_word, in_and, in_or, operand_words, written, written_step}
use Rattle.text_model.specs.Condition.Shape.{Single, AndList, OrList}
use Rattle.text_model.specs.Words.{Words, column_words, separated}
use Rattle.sql_print.specs.Parts.{null_test_words}

-- an AND list, with its parts as they are written
pub written-Every : (parts : List Cond) → written (Every parts) ≡ written_step (Cond-F.Every (map written parts))
unfolding written
written-Every parts = ap written (sym (rolls-Every parts)) ∙ fold-roll-Cond Written written_step (Cond-F.Every parts)

-- an OR list, with its parts as they are written
pub written-Some1 : (parts : List Cond) → written (Some1 parts) ≡ written_step (Cond-F.Some1 (map written parts))
unfolding written
written-Some1 parts = ap written (sym (rolls-Some1 parts)) ∙ fold-roll-Cond Written written_step (Cond-F.Some1 parts)

-- NOT and a part, with its parts as they are written
pub written-Not : (part : Cond) → written (Not part) ≡ written_step (Cond-F.Not (written part))
unfolding written
written-Not part = ap written (sym (rolls-Not part)) ∙ fold-roll-Cond Written written_step (Cond-F.Not part)

-- a comparison
pub written-Compare : (left : ColRef) (comparison : Cmp) (right : Operand) → written (Compare left comparison right) ≡ written_step (Cond-F.Compare left comparison right)
unfolding written
written-Compare left comparison right = ap written (sym (rolls-Compare left comparison right)) ∙ fold-roll-Cond Written written_step (Cond-F.Compare left comparison right)

-- a test for NULL
pub written-IsNull : (column : ColRef) (negated : Bool) → written (IsNull column negated) ≡ written_step (Cond-F.IsNull column negated)
unfolding written
written-IsNull column negated = ap written (sym (rolls-IsNull column negated)) ∙ fold-roll-Cond Written written_step (Cond-F.IsNull column negated)

-- the parts as they are written
separated-map : {A B : Type 0} (separator : List ℕ) (words : B → Words) (by : A → B) (parts : List A) → separated separator words (map by parts) ≡ separated separator (λ part. words (by part)) parts
separated-map separator words by [] = refl
separated-map separator words by (first ∷ rest) = ap (λ l. words (by first) ++ l) (flat_map-map (λ part. separator ∷ words part) by rest)

-- an AND list as a part of another condition
pub shape-Every : (parts : List Cond) → (written (Every parts)).shape ≡ AndList
shape-Every parts = ap (λ w. w.shape) (written-Every parts)

-- an OR list as a part of another condition
pub shape-Some1 : (parts : List Cond) → (written (Some1 parts)).shape ≡ OrList
shape-Some1 parts = ap (λ w. w.shape) (written-Some1 parts)

-- NOT and a part as a part of another condition
pub shape-Not : (part : Cond) → (written (Not part)).shape ≡ Single
shape-Not part = ap (λ w. w.shape) (written-Not part)

-- a comparison as a part of another condition
pub shape-Compare : (left : ColRef) (comparison : Cmp) (right : Operand) → (written (Compare left comparison right)).shape ≡ Single
shape-Compare left comparison right = ap (λ w. w.shape) (written-Compare left comparison right)

-- a test for NULL as a part of another condition
pub shape-IsNull : (column : ColRef) (negated : Bool) → (written (IsNull column negated)).shape ≡ Single
shape-IsNull column negated = ap (λ w. w.shape) (written-IsNull column negated)

-- what a condition is as a part of another
pub ruleset shapes = (shape-Every, shape-Some1, shape-Not, shape-Compare, shape-IsNull)

-- the words of an AND list
pub words-Every : (parts : List Cond) → (written (Every parts)).words ≡ separated (codes "AND") (λ part. in_and (written part)) parts
words-Every parts = ap (λ w. w.words) (written-Every parts) ∙ separated-map (codes "AND") in_and written parts

-- the words of an OR list
pub words-Some1 : (parts : List Cond) → (written (Some1 parts)).words ≡ separated (codes "OR") (λ part. in_or (written part)) parts
words-Some1 parts = ap (λ w. w.words) (written-Some1 parts) ∙ separated-map (codes "OR") in_or written parts

-- the words of NOT and a part
pub words-Not : (part : Cond) → (written (Not part)).words ≡ codes "NOT" ∷ in_and (written part)
words-Not part = ap (λ w. w.words) (written-Not part)

-- the words of a comparison
pub words-Compare : (left : ColRef) (comparison : Cmp) (right : Operand) → (written (Compare left comparison right)).words ≡ column_words left ++ cmp_word comparison ∷ operand_words right
words-Compare left comparison right = ap (λ w. w.words) (written-Compare left comparison right)

-- the words of a test for NULL
pub words-IsNull : (column : ColRef) (negated : Bool) → (written (IsNull column negated)).words ≡ null_test_words column negated
words-IsNull column negated = ap (λ w. w.words) (written-IsNull column negated)

-- the words of a condition
pub ruleset words = (words-Every, words-Some1, words-Not, words-Compare, words-IsNull)
