-- Nodes of which one was changed in place.
use Rattle.std.proofs.Common.{◌≡◌, sym, ◌∙◌, ap, List, [], ◌∷◌, ◌++◌, ℕ, suc, ◌+◌, ◌<◌, ◌≤◌, length, take, drop, get_or, add-one, length-append, Option, arith}
use Rattle.std.specs.Prelude.{slice_set}
use Rattle.std.specs.Cmp.{IsTotalOrder}
use Rattle.std.specs.declared.cmp.Ordering.{Ordering}
use Rattle.std.specs.declared.sync.Arc.{Arc}
use Rattle.std.proofs.lemmas.Grind.{flat_map-append}
use Rattle.page_model.specs.Page.{IsFirst, joined}
use Rattle.page_model.proofs.ChangedLemmas.{length_with_changes}
use Rattle.page_tree.specs.Body.{pages_of}
use Rattle.page_tree.specs.Branch.{Branch}
use Rattle.page_tree.specs.InPlace.{InPlace}
use Rattle.page_tree.proofs.InPlaceLemmas.{set_parts}
use Rattle.page_tree.proofs.NodeLemmas.{pages_from, pages_split}

-- how many items pages have that stand one behind the other
pub joined_length : {T : Type 0} (front here behind : List (List T)) → length (joined (front ++ (here ++ behind))) ≡ length (joined front) + (length (joined here) + length (joined behind))
joined_length front here behind =
    ap length (flat_map-append (λ page. page) front (here ++ behind) ∙ ap (λ items. joined front ++ items) (flat_map-append (λ page. page) here behind))
    ∙ (length-append (joined front) (joined here ++ joined behind) ∙ ap (λ n. length (joined front) + n) (length-append (joined here) (joined behind)))

-- how many there are that stand one behind the other
pub counted : {X : Type 0} (front here behind : List X) → length (front ++ (here ++ behind)) ≡ length front + (length here + length behind)
counted front here behind = length-append front (here ++ behind) ∙ ap (λ n. length front + n) (length-append here behind)

-- pages begin as before where those that are changed do
first_here : {T : Type 0} (old new behind : List (List T)) → 0 < length old → ((first : T) → IsFirst first old → IsFirst first new) → (first : T) → IsFirst first (old ++ behind) → IsFirst first (new ++ behind)
first_here [] new behind some begins first is = absurd (omega arith)
first_here (page ∷ old) new behind some begins first is =
    let starts : page ≡ first ∷ is.others = let same = is.is in cc in
    let there = begins first (record { others = is.others; behind = old; is = ap (λ each. each ∷ old) starts }) in
    record { others = there.others; behind = there.behind ++ behind; is = ap (λ pages. pages ++ behind) there.is }

pub first_among : {T : Type 0} (front old new behind : List (List T)) → 0 < length old → ((first : T) → IsFirst first old → IsFirst first new) → (first : T) → IsFirst first (front ++ (old ++ behind)) → IsFirst first (front ++ (new ++ behind))
first_among [] old new behind some begins first is = first_here old new behind some begins first is
first_among (page ∷ front) old new behind some begins first is =
    let starts : page ≡ first ∷ is.others = let same = is.is in cc in
    record { others = is.others; behind = front ++ (new ++ behind); is = ap (λ each. each ∷ (front ++ (new ++ behind))) starts }

module _ {T Z : Type 0} where
  -- the pages around a node, and around one that is put in its place
  pub pages_around : (nodes : List (Arc (Branch T) Z)) (number : ℕ) (node : Arc (Branch T) Z) → number < length nodes → node ≡ get_or nodes number node
      → pages_of nodes ≡ pages_of (take number nodes) ++ (node.value.pages ++ pages_of (drop (number + 1) nodes))
  pages_around nodes number node within is = pages_split number nodes ∙ ap (λ pages. pages_of (take number nodes) ++ pages) (pages_from nodes number node within is)

  pub pages_set : (nodes : List (Arc (Branch T) Z)) (number : ℕ) (new : Arc (Branch T) Z) → number < length nodes
      → pages_of (slice_set nodes number new) ≡ pages_of (take number nodes) ++ (new.value.pages ++ pages_of (drop (number + 1) nodes))
  pages_set nodes number new within =
      ap pages_of (set_parts nodes number new within)
      ∙ (flat_map-append (λ (node : Arc (Branch T) Z). node.value.pages) (take number nodes) (new ∷ drop (suc number) nodes)
      ∙ ap (λ n. pages_of (take number nodes) ++ (new.value.pages ++ pages_of (drop n nodes))) (sym (add-one number)))

  -- a node with the same pages changes nothing
  pub pages_same : (nodes : List (Arc (Branch T) Z)) (number : ℕ) (node new : Arc (Branch T) Z) → number < length nodes → node ≡ get_or nodes number node → new.value.pages ≡ node.value.pages
      → pages_of (slice_set nodes number new) ≡ pages_of nodes
  pages_same nodes number node new within is same =
      pages_set nodes number new within ∙ (ap (λ pages. pages_of (take number nodes) ++ (pages ++ pages_of (drop (number + 1) nodes))) same ∙ sym (pages_around nodes number node within is))

  -- how many items there are
  pub items_around : (nodes : List (Arc (Branch T) Z)) (number : ℕ) (node : Arc (Branch T) Z) → number < length nodes → node ≡ get_or nodes number node
      → length (joined (pages_of nodes)) ≡ length (joined (pages_of (take number nodes))) + (length (joined node.value.pages) + length (joined (pages_of (drop (number + 1) nodes))))
  items_around nodes number node within is = ap (λ pages. length (joined pages)) (pages_around nodes number node within is) ∙ joined_length (pages_of (take number nodes)) node.value.pages (pages_of (drop (number + 1) nodes))

  pub items_set : (nodes : List (Arc (Branch T) Z)) (number : ℕ) (new : Arc (Branch T) Z) → number < length nodes
      → length (joined (pages_of (slice_set nodes number new))) ≡ length (joined (pages_of (take number nodes))) + (length (joined new.value.pages) + length (joined (pages_of (drop (number + 1) nodes))))
  items_set nodes number new within = ap (λ pages. length (joined pages)) (pages_set nodes number new within) ∙ joined_length (pages_of (take number nodes)) new.value.pages (pages_of (drop (number + 1) nodes))

  -- how many pages there are
  pub pages_counted : (nodes : List (Arc (Branch T) Z)) (number : ℕ) (node : Arc (Branch T) Z) → number < length nodes → node ≡ get_or nodes number node
      → length (pages_of nodes) ≡ length (pages_of (take number nodes)) + (length node.value.pages + length (pages_of (drop (number + 1) nodes)))
  pages_counted nodes number node within is = ap length (pages_around nodes number node within is) ∙ counted (pages_of (take number nodes)) node.value.pages (pages_of (drop (number + 1) nodes))

  pub pages_counted_set : (nodes : List (Arc (Branch T) Z)) (number : ℕ) (new : Arc (Branch T) Z) → number < length nodes
      → length (pages_of (slice_set nodes number new)) ≡ length (pages_of (take number nodes)) + (length new.value.pages + length (pages_of (drop (number + 1) nodes)))
  pages_counted_set nodes number new within = ap length (pages_set nodes number new within) ∙ counted (pages_of (take number nodes)) new.value.pages (pages_of (drop (number + 1) nodes))

module _ {T K C : Type 0} (key_of : T → K) {cmp : K → K → Ordering} (order : IsTotalOrder cmp) (changed : C → K) (put : C → Option T) where
  -- a change adds no more than an item
  pub grows : (old new : List (List T)) (change : C) → InPlace key_of cmp changed put old change new → length (joined new) ≤ length (joined old) + 1
  grows old new change is =
      let made : length (joined new) ≡ _ = ap (λ pages. length (joined pages)) is.adds.behind ∙ ap length is.adds.items in
      omega (arith, made, length_with_changes key_of order changed put (change ∷ []) (joined old))
