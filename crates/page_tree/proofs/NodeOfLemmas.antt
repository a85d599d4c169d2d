-- The node into which a key falls, among nodes whose keys rise.
use Rattle.std.proofs.Common.{◌≡◌, refl, ◌∙◌, ap, subst, inl, inr, List, ◌++◌, ℕ, zero, suc, ◌+◌, ◌<◌, length, take, drop, get_or, append-nil, arith}
use Rattle.std.specs.Cmp.{IsTotalOrder}
use Rattle.std.specs.declared.cmp.Ordering.{Ordering}
use Rattle.std.specs.declared.sync.Arc.{Arc}
use Rattle.std.proofs.lemmas.Bool.{cases_lt}
use Rattle.std.proofs.lemmas.List.{drop_all}
use Rattle.page_model.specs.Found.{found}
use Rattle.page_model.specs.Page.{joined}
use Rattle.page_model.specs.Rising.{IsRising}
use Rattle.page_model.proofs.FoundLemmas.{found_in_back, found_in_front}
use Rattle.page_model.proofs.RisingLemmas.{rising_back, rising_front}
use Rattle.page_tree.specs.Body.{pages_of}
use Rattle.page_tree.specs.Branch.{Branch}
use Rattle.page_tree.specs.NodeOf.{IsNodeOf}
use Rattle.page_tree.proofs.NodeLemmas.{items_from, items_split}

module _ {T K Z : Type 0} (key_of : T → K) {cmp : K → K → Ordering} (order : IsTotalOrder cmp) where
  -- keys rise from a node on, and within it
  pub rising_from : (nodes : List (Arc (Branch T) Z)) (number : ℕ) → IsRising key_of cmp (joined (pages_of nodes)) → IsRising key_of cmp (joined (pages_of (drop number nodes)))
  rising_from nodes number rising =
      rising_back key_of cmp (joined (pages_of (take number nodes))) (joined (pages_of (drop number nodes))) (subst (IsRising key_of cmp) (items_split number nodes) rising)

  pub rising_within : (nodes : List (Arc (Branch T) Z)) (number : ℕ) (node : Arc (Branch T) Z) → number < length nodes → node ≡ get_or nodes number node
      → IsRising key_of cmp (joined (pages_of nodes)) → IsRising key_of cmp (joined node.value.pages)
  rising_within nodes number node within is rising =
      rising_front key_of cmp (joined node.value.pages) (joined (pages_of (drop (number + 1) nodes))) (subst (IsRising key_of cmp) (items_from nodes number node within is) (rising_from nodes number rising))

  -- what is looked for isn't before the node
  found_from : (key : K) (nodes : List (Arc (Branch T) Z)) (number : ℕ) → IsNodeOf key_of cmp key nodes number → IsRising key_of cmp (joined (pages_of nodes))
      → found key_of cmp key (joined (pages_of nodes)) ≡ found key_of cmp key (joined (pages_of (drop number nodes)))
  found_from key nodes zero falls rising = refl
  found_from key nodes (suc number) falls rising =
      let begin = falls.begins (omega arith) in
      found_in_back key_of order key (joined (pages_of nodes)) (joined (pages_of (take (suc number) nodes))) begin.first (pages_of (drop (suc number) nodes)) (items_split (suc number) nodes) begin.is rising begin.stands

  -- nor behind it
  pub found_in_node : (key : K) (nodes : List (Arc (Branch T) Z)) (number : ℕ) (node : Arc (Branch T) Z) → node ≡ get_or nodes number node → IsNodeOf key_of cmp key nodes number → IsRising key_of cmp (joined (pages_of nodes))
      → found key_of cmp key (joined (pages_of nodes)) ≡ found key_of cmp key (joined node.value.pages)
  found_in_node key nodes number node is falls rising =
      let from = items_from nodes number node falls.within is in
      found_from key nodes number falls rising ∙ elim (cases_lt (number + 1) (length nodes)) [
        | inl more ↦ let begin = falls.ends more in
            found_in_front key_of order key (joined (pages_of (drop number nodes))) (joined node.value.pages) begin.first (pages_of (drop (number + 1) nodes)) from begin.is (rising_from nodes number rising) begin.stands
        | inr end ↦ ap (found key_of cmp key) (from ∙ (ap (λ behind. joined node.value.pages ++ joined (pages_of behind)) (drop_all (number + 1) nodes end) ∙ append-nil (joined node.value.pages)))
      ]
