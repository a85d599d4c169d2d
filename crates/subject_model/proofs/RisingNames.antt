-- Lists of names that rise.
use Rattle.std.proofs.Common.{◌≡◌, List, [], ◌∷◌, refl, ap, sym, ◌∙◌, subst, inl, inr}
use Rattle.std.specs.Prelude.{◌↔◌, Contains}
use Rattle.std.specs.Cmp.{IsTotalOrder}
use Rattle.std.specs.List.Sorted.{IsStrictlySortedBy}
use Rattle.std.specs.Ordering.{ordering_reverse}
use Rattle.std.specs.declared.cmp.Ordering.{Ordering}
use Rattle.std.specs.declared.cmp.Ordering.TheVariants.{Less, Greater}
use Rattle.std.proofs.lemmas.Cmp.{nat_cmp_total, on_total, then_total}
use Rattle.own_model.proofs.KeyOrder.{key_order}
use Rattle.subject_model.specs.NameOrder.{name_cmp}
use Rattle.subject_model.proofs.Members.{all_contained, contains_cases, contains_here, contains_later, contains_none}

-- the order of names is total
pub name_order : IsTotalOrder name_cmp
name_order = then_total (on_total (λ name. name.table.0) nat_cmp_total) (on_total (λ name. name.key) key_order)

module _ {K : Type 0} {cmp : K → K → Ordering} (order : IsTotalOrder cmp) where
  not_both : (x y : K) → cmp x y ≡ Less → cmp y x ≡ Less → ⊥
  not_both x y below above = let never : Less ≡ Greater = sym below ∙ (order.antisymm x y ∙ ap ordering_reverse above) in cc

  not_below_itself : (x : K) → cmp x x ≡ Less → ⊥
  not_below_itself x below = not_both x x below below

  same_head : (x y : K) (xs ys : List K) → IsStrictlySortedBy cmp (x ∷ xs) → IsStrictlySortedBy cmp (y ∷ ys) → Contains (y ∷ ys) x → Contains (x ∷ xs) y → x ≡ y
  unfolding IsStrictlySortedBy
  same_head x y xs ys up_xs up_ys at_x at_y =
      elim (contains_cases y ys x at_x) [
        | inl same ↦ sym same
        | inr later_x ↦ elim (contains_cases x xs y at_y) [
          | inl same ↦ same
          | inr later_y ↦ absurd (not_both x y (all_contained (λ z. cmp x z ≡ Less) xs y up_xs.0 later_y) (all_contained (λ z. cmp y z ≡ Less) ys x up_ys.0 later_x))
        ]
      ]

  -- what is behind the head of one is behind the head of the other
  behind : (x y z : K) (xs ys : List K) → IsStrictlySortedBy cmp (x ∷ xs) → x ≡ y → Contains xs z → Contains (y ∷ ys) z → Contains ys z
  unfolding IsStrictlySortedBy
  behind x y z xs ys up same at_z listed =
      elim (contains_cases y ys z listed) [
        | inl here ↦ absurd (not_below_itself x (subst (λ k. cmp x k ≡ Less) (sym (same ∙ here)) (all_contained (λ k. cmp x k ≡ Less) xs z up.0 at_z)))
        | inr later ↦ later
      ]

  -- rising lists with the same elements are one
  pub same_rising : (xs ys : List K) → IsStrictlySortedBy cmp xs → IsStrictlySortedBy cmp ys → ((x : K) → Contains xs x ↔ Contains ys x) → xs ≡ ys
  unfolding IsStrictlySortedBy
  same_rising [] [] up_xs up_ys same = refl
  same_rising [] (y ∷ ys) up_xs up_ys same = absurd (contains_none y ((same y).1 (contains_here y ys)))
  same_rising (x ∷ xs) [] up_xs up_ys same = absurd (contains_none x ((same x).0 (contains_here x xs)))
  same_rising (x ∷ xs) (y ∷ ys) up_xs up_ys same =
      let head : x ≡ y = same_head x y xs ys up_xs up_ys ((same x).0 (contains_here x xs)) ((same y).1 (contains_here y ys)) in
      let tail : xs ≡ ys = same_rising xs ys up_xs.1 up_ys.1 (λ z. (
        (λ at_z. behind x y z xs ys up_xs head at_z ((same z).0 (contains_later x xs z at_z))),
        (λ at_z. behind y x z ys xs up_ys (sym head) at_z ((same z).1 (contains_later y ys z at_z))),
      )) in
      cc
