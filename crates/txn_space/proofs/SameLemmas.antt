-- Whether two rows are the same.
use Rattle.std.proofs.Common.{◌≡◌, refl, sym, ◌∙◌, ap, ℕ, suc, ◌+◌, ◌<◌, ◌≤◌, [], ◌∷◌, length, drop, get_or}
use Rattle.std.specs.Prelude.{true, false, ◌&&◌}
use Rattle.std.proofs.lemmas.List.{drop_all, drop_more}
use Rattle.std.proofs.Math.Bool.{and-false}
use Rattle.own_base.specs.declared.value.Value.{Value}
use Rattle.own_model.specs.Db.{Row}
use Rattle.state_model.specs.Same.{is_same_row, is_same_value}

-- rows of other lengths differ
pub other_lengths : (left right : Row) → (length left ≡ length right → ⊥) → is_same_row left right ≡ false
unfolding is_same_row
other_lengths [] [] other = absurd (other refl)
other_lengths [] (value ∷ right) other = refl
other_lengths (value ∷ left) [] other = refl
other_lengths (value ∷ left) (next ∷ right) other = rw (other_lengths left right (λ same. other (ap suc same))) (and-false (is_same_value value next))

-- rows from a place on, whose first values are the same, or differ
pub same_on : (left right : Row) (place : ℕ) (l r : Value) → place < length left → place < length right → l ≡ get_or left place l → r ≡ get_or right place r
    → is_same_row (drop place left) (drop place right) ≡ (is_same_value l r && is_same_row (drop (place + 1) left) (drop (place + 1) right))
unfolding is_same_row
same_on left right place l r inside within is here =
    ap (λ xs. is_same_row xs (drop place right)) (drop_more left place l inside ∙ ap (λ v. v ∷ drop (place + 1) left) (sym is))
    ∙ ap (is_same_row (l ∷ drop (place + 1) left)) (drop_more right place r within ∙ ap (λ v. v ∷ drop (place + 1) right) (sym here))

-- rows from their end on are the same
pub same_past : (left right : Row) (place : ℕ) → length left ≤ place → length right ≤ place → is_same_row (drop place left) (drop place right) ≡ true
unfolding is_same_row
same_past left right place inside within = rw (drop_all place left inside, drop_all place right within) refl
