-- The words of a condition, one layer at a time.
use Rattle.std.proofs.Common.{◌≡◌, List, [], ◌∷◌, ◌++◌, refl, sym, ap, ◌∙◌, codes, ℕ}
use Rattle.std.specs.Prelude.{Bool, map}
use Rattle.std.specs.List.{flat_map}
use Rattle.own_model.specs.declared.condition.Cmp.{Cmp}
use Rattle.own_model.specs.declared.condition.Cond.{Cond}
use Rattle.own_model.specs.declared.condition.Cond.TheVariants as Cond
use Rattle.own_model.specs.declared.condition.Cond.TheOpen.{Cond-F}
use Rattle.own_model.specs.declared.condition.Cond.TheFolds.{fold-roll-Cond}
use Rattle.own_model.specs.declared.condition.Operand.{Operand}
use Rattle.own_model.specs.declared.select.ColRef.{ColRef}
use Rattle.text_model.specs.Condition.{Written, written, written_step, AndList, OrList, in_and, in_or}
use Rattle.text_model.specs.Words.{Words, separated}

-- the parts of a list, each as it is written
separated-map : {A B : Type 0} (separator : List ℕ) (shown : A → B) (words : B → Words) (parts : List A) → separated separator words (map shown parts) ≡ separated separator (λ part. words (shown part)) parts
separated-map separator shown words [] = refl
separated-map separator shown words (first ∷ parts) = ap (λ l. words (shown first) ++ l) (others-map parts)
  where
    others-map : (parts : List _) → flat_map (λ part. separator ∷ words part) (map shown parts) ≡ flat_map (λ part. separator ∷ words (shown part)) parts
    others-map [] = refl
    others-map (next ∷ parts) = ap (λ l. (separator ∷ words (shown next)) ++ l) (others-map parts)

-- an AND list, its members in brackets where they are lists
pub every-written : (parts : List Cond) → written (Cond.Every parts) ≡ record { words = separated (codes "AND") (λ part. in_and (written part)) parts; shape = AndList }
unfolding written
every-written parts =
    ap written (sym (Cond.rolls-Every parts)) ∙ fold-roll-Cond Written written_step (Cond-F.Every parts)
    ∙ ap (λ w. record { words = w; shape = AndList }) (separated-map (codes "AND") written in_and parts)

-- an OR list, its members in brackets where they are OR lists
pub some-written : (parts : List Cond) → written (Cond.Some1 parts) ≡ record { words = separated (codes "OR") (λ part. in_or (written part)) parts; shape = OrList }
unfolding written
some-written parts =
    ap written (sym (Cond.rolls-Some1 parts)) ∙ fold-roll-Cond Written written_step (Cond-F.Some1 parts)
    ∙ ap (λ w. record { words = w; shape = OrList }) (separated-map (codes "OR") written in_or parts)

-- NOT, and its condition
pub not-written : (part : Cond) → written (Cond.Not part) ≡ written_step (Cond-F.Not (written part))
unfolding written
not-written part = ap written (sym (Cond.rolls-Not part)) ∙ fold-roll-Cond Written written_step (Cond-F.Not part)

-- a comparison
pub compare-written : (left : ColRef) (sign : Cmp) (right : Operand) → written (Cond.Compare left sign right) ≡ written_step (Cond-F.Compare left sign right)
unfolding written
compare-written left sign right = ap written (sym (Cond.rolls-Compare left sign right)) ∙ fold-roll-Cond Written written_step (Cond-F.Compare left sign right)

-- IS NULL or IS NOT NULL
pub null-written : (column : ColRef) (negated : Bool) → written (Cond.IsNull column negated) ≡ written_step (Cond-F.IsNull column negated)
unfolding written
null-written column negated = ap written (sym (Cond.rolls-IsNull column negated)) ∙ fold-roll-Cond Written written_step (Cond-F.IsNull column negated)
