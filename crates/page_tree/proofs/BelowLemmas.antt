-- Where a bound divides the items of a page, and those of nodes.
use Rattle.std.proofs.Common.{◌≡◌, sym, ◌∙◌, ap, subst, inl, inr, List, ◌∷◌, ◌++◌, ℕ, zero, suc, ◌+◌, ◌<◌, length, take, drop, get_or, take-append-drop, arith}
use Rattle.std.specs.Prelude.{Bool, true, false}
use Rattle.std.specs.Cmp.{IsTotalOrder}
use Rattle.std.specs.List.{AllByRecursion as Each}
use Rattle.std.specs.declared.cmp.Ordering.{Ordering}
use Rattle.std.specs.declared.sync.Arc.{Arc}
use Rattle.std.proofs.lemmas.Bool.{cases_lt}
use Rattle.std.proofs.lemmas.List.{drop_all, drop_more}
use Rattle.page_model.specs.Bound.{Divides, IsMonotone}
use Rattle.page_model.specs.Page.{joined}
use Rattle.page_model.specs.Rising.{IsRising}
use Rattle.page_model.proofs.BoundLemmas.{below_before, divides_behind, divides_front, none_behind}
use Rattle.page_model.proofs.RisingLemmas.{rising_back}
use Rattle.page_tree.specs.Body.{pages_of}
use Rattle.page_tree.specs.Branch.{Branch}
use Rattle.page_tree.specs.NodeBelow.{IsNodeBelow, Starts}
use Rattle.page_tree.proofs.NodeLemmas.{items_split}
use Rattle.page_tree.proofs.NodeOfLemmas.{rising_from}
use Rattle.page_tree.proofs.SearchLemmas.{each_more}

module _ {T K : Type 0} (key_of : T → K) {cmp : K → K → Ordering} (order : IsTotalOrder cmp) (below : T → Bool) (monotone : IsMonotone key_of cmp below) where
  -- up to an item below the bound all items are, and from one on that isn't none is
  pub below_upto : (xs : List T) (index : ℕ) (x : T) → index < length xs → x ≡ get_or xs index x → IsRising key_of cmp xs → below x ≡ true → Each (λ y. below y ≡ true) (take (index + 1) xs)
  below_upto xs index x within is rising passes =
      let here : drop index xs ≡ x ∷ drop (index + 1) xs = drop_more xs index x within ∙ ap (λ y. y ∷ drop (index + 1) xs) (sym is) in
      let parts : xs ≡ take index xs ++ x ∷ drop (index + 1) xs = sym (take-append-drop index xs) ∙ ap (λ ys. take index xs ++ ys) here in
      each_more (λ y. below y ≡ true) xs index x within is (below_before key_of order below monotone (take index xs) x (drop (index + 1) xs) (subst (IsRising key_of cmp) parts rising) passes) passes

  pub none_from : (xs : List T) (index : ℕ) (x : T) → index < length xs → x ≡ get_or xs index x → IsRising key_of cmp xs → below x ≡ false → Each (λ y. below y ≡ false) (drop index xs)
  none_from xs index x within is rising fails =
      let here : drop index xs ≡ x ∷ drop (index + 1) xs = drop_more xs index x within ∙ ap (λ y. y ∷ drop (index + 1) xs) (sym is) in
      let rises = subst (IsRising key_of cmp) here (rising_back key_of cmp (take index xs) (drop index xs) (subst (IsRising key_of cmp) (sym (take-append-drop index xs)) rising)) in
      subst (Each (λ y. below y ≡ false)) (sym here) (none_behind key_of order below monotone x (drop (index + 1) xs) rises fails)

  -- the same of the items behind others, by the first item of their pages
  front_below : (front : List T) (pages : List (List T)) → Starts below true pages → IsRising key_of cmp (front ++ joined pages) → Each (λ y. below y ≡ true) front
  front_below front pages starts rising =
      below_before key_of order below monotone front starts.first (starts.is.others ++ joined starts.is.behind) (subst (λ all. IsRising key_of cmp (front ++ joined all)) starts.is.is rising) starts.side

  none_in : (pages : List (List T)) → Starts below false pages → IsRising key_of cmp (joined pages) → Each (λ y. below y ≡ false) (joined pages)
  none_in pages starts rising =
      subst (λ all. Each (λ y. below y ≡ false) (joined all)) (sym starts.is.is)
      (none_behind key_of order below monotone starts.first (starts.is.others ++ joined starts.is.behind) (subst (λ all. IsRising key_of cmp (joined all)) starts.is.is rising) starts.side)

module _ {T K Z : Type 0} (key_of : T → K) {cmp : K → K → Ordering} (order : IsTotalOrder cmp) (below : T → Bool) (monotone : IsMonotone key_of cmp below) where
  -- the items before the node are below the bound
  before_node : (nodes : List (Arc (Branch T) Z)) (number : ℕ) → IsNodeBelow below nodes number → IsRising key_of cmp (joined (pages_of nodes)) → Each (λ y. below y ≡ true) (joined (pages_of (take number nodes)))
  before_node nodes zero falls rising = tt
  before_node nodes (suc number) falls rising =
      front_below key_of order below monotone (joined (pages_of (take (suc number) nodes))) (pages_of (drop (suc number) nodes)) (falls.begins (omega arith)) (subst (IsRising key_of cmp) (items_split (suc number) nodes) rising)

  -- and those behind it aren't
  behind_node : (nodes : List (Arc (Branch T) Z)) (number : ℕ) → IsNodeBelow below nodes number → IsRising key_of cmp (joined (pages_of nodes)) → Each (λ y. below y ≡ false) (joined (pages_of (drop (number + 1) nodes)))
  behind_node nodes number falls rising = elim (cases_lt (number + 1) (length nodes)) [
    | inl more ↦ none_in key_of order below monotone (pages_of (drop (number + 1) nodes)) (falls.ends more) (rising_from key_of order nodes (number + 1) rising)
    | inr end ↦ subst (λ behind. Each (λ y. below y ≡ false) (joined (pages_of behind))) (sym (drop_all (number + 1) nodes end)) tt
  ]

  -- so the bound divides all items where it divides those of the node
  pub divides_in_node : (nodes : List (Arc (Branch T) Z)) (number : ℕ) (here : List T) (place : ℕ) → IsNodeBelow below nodes number → IsRising key_of cmp (joined (pages_of nodes))
      → joined (pages_of (drop number nodes)) ≡ here ++ joined (pages_of (drop (number + 1) nodes)) → Divides below here place
      → Divides below (joined (pages_of nodes)) (length (joined (pages_of (take number nodes))) + place)
  divides_in_node nodes number here place falls rising from divides =
      let behind = joined (pages_of (drop (number + 1) nodes)) in
      let both = divides_front below here behind place (behind_node nodes number falls rising) divides in
      subst (λ all. Divides below all (length (joined (pages_of (take number nodes))) + place)) (sym (items_split number nodes))
      (divides_behind below (joined (pages_of (take number nodes))) (joined (pages_of (drop number nodes))) place (before_node nodes number falls rising) (subst (λ all. Divides below all place) (sym from) both))
