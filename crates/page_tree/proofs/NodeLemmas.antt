-- The pages of nodes, and places among them.
use Rattle.std.proofs.Common.{◌≡◌, refl, sym, ◌∙◌, ap, List, [], ◌∷◌, ◌++◌, ℕ, zero, suc, ◌+◌, ◌-◌, ◌<◌, ◌≤◌, length, drop, take, get_or, take-append-drop, arith}
use Rattle.std.specs.Prelude.{slice_get}
use Rattle.std.specs.declared.sync.Arc.{Arc}
use Rattle.std.proofs.lemmas.Grind.{flat_map-append}
use Rattle.std.proofs.lemmas.List.{drop_more}
use Rattle.std.proofs.lemmas.List.Sums.{sum_by-append, sum_by-cons}
use Rattle.page_model.specs.Page.{joined}
use Rattle.page_tree.specs.Body.{nodes_of, pages_of}
use Rattle.page_tree.specs.Branch.{Branch}

-- a place in the first of two lists, and one behind it
get_in_front : {X : Type 0} (xs ys : List X) (n : ℕ) → n < length xs → slice_get (xs ++ ys) n ≡ slice_get xs n
get_in_front [] ys n within = absurd (omega arith)
get_in_front (x ∷ xs) ys zero within = refl
get_in_front (x ∷ xs) ys (suc n) within = get_in_front xs ys n (omega arith)

get_behind : {X : Type 0} (xs ys : List X) (n m : ℕ) → n ≡ length xs + m → slice_get (xs ++ ys) n ≡ slice_get ys m
get_behind [] ys n m is = ap (slice_get ys) (let same : n ≡ m = omega arith in same)
get_behind (x ∷ xs) ys zero m is = absurd (omega arith)
get_behind (x ∷ xs) ys (suc n) m is = get_behind xs ys n m (omega arith)

module _ {T Z : Type 0} where
  -- the pages from a node on are its own and those behind it
  pub pages_from : (nodes : List (Arc (Branch T) Z)) (index : ℕ) (node : Arc (Branch T) Z) → index < length nodes → node ≡ get_or nodes index node
      → pages_of (drop index nodes) ≡ node.value.pages ++ pages_of (drop (index + 1) nodes)
  pages_from nodes index node within is = ap pages_of (drop_more nodes index node within) ∙ ap (λ (first : Arc (Branch T) Z). first.value.pages ++ pages_of (drop (index + 1) nodes)) (sym is)

  pub items_from : (nodes : List (Arc (Branch T) Z)) (index : ℕ) (node : Arc (Branch T) Z) → index < length nodes → node ≡ get_or nodes index node
      → joined (pages_of (drop index nodes)) ≡ joined node.value.pages ++ joined (pages_of (drop (index + 1) nodes))
  items_from nodes index node within is = ap joined (pages_from nodes index node within is) ∙ flat_map-append (λ page. page) node.value.pages (pages_of (drop (index + 1) nodes))

  -- a page's number within a node, or behind it
  pub page_here : (nodes : List (Arc (Branch T) Z)) (index left : ℕ) (node : Arc (Branch T) Z) → index < length nodes → node ≡ get_or nodes index node → left < length node.value.pages
      → slice_get (pages_of (drop index nodes)) left ≡ slice_get node.value.pages left
  page_here nodes index left node within is here = ap (λ pages. slice_get pages left) (pages_from nodes index node within is) ∙ get_in_front node.value.pages _ left here

  pub page_later : (nodes : List (Arc (Branch T) Z)) (index left : ℕ) (node : Arc (Branch T) Z) → index < length nodes → node ≡ get_or nodes index node → length node.value.pages ≤ left
      → slice_get (pages_of (drop (index + 1) nodes)) (left - length node.value.pages) ≡ slice_get (pages_of (drop index nodes)) left
  page_later nodes index left node within is later =
      sym (ap (λ pages. slice_get pages left) (pages_from nodes index node within is) ∙ get_behind node.value.pages _ left (left - length node.value.pages) (omega arith))

  -- the same of an item's place
  pub item_here : (nodes : List (Arc (Branch T) Z)) (index left : ℕ) (node : Arc (Branch T) Z) → index < length nodes → node ≡ get_or nodes index node → left < length (joined node.value.pages)
      → slice_get (joined (pages_of (drop index nodes))) left ≡ slice_get (joined node.value.pages) left
  item_here nodes index left node within is here = ap (λ items. slice_get items left) (items_from nodes index node within is) ∙ get_in_front (joined node.value.pages) _ left here

  pub item_later : (nodes : List (Arc (Branch T) Z)) (index left : ℕ) (node : Arc (Branch T) Z) → index < length nodes → node ≡ get_or nodes index node → length (joined node.value.pages) ≤ left
      → slice_get (joined (pages_of (drop (index + 1) nodes))) (left - length (joined node.value.pages)) ≡ slice_get (joined (pages_of (drop index nodes))) left
  item_later nodes index left node within is later =
      sym (ap (λ items. slice_get items left) (items_from nodes index node within is) ∙ get_behind (joined node.value.pages) _ left (left - length (joined node.value.pages)) (omega arith))

  -- the nodes before an index, and those from it on
  pub pages_split : (index : ℕ) (nodes : List (Arc (Branch T) Z)) → pages_of nodes ≡ pages_of (take index nodes) ++ pages_of (drop index nodes)
  pages_split index nodes = ap pages_of (sym (take-append-drop index nodes)) ∙ flat_map-append (λ (node : Arc (Branch T) Z). node.value.pages) (take index nodes) (drop index nodes)

  pub items_split : (index : ℕ) (nodes : List (Arc (Branch T) Z)) → joined (pages_of nodes) ≡ joined (pages_of (take index nodes)) ++ joined (pages_of (drop index nodes))
  items_split index nodes = ap joined (pages_split index nodes) ∙ flat_map-append (λ page. page) (pages_of (take index nodes)) (pages_of (drop index nodes))

  pub nodes_split : (index : ℕ) (nodes : List (Arc (Branch T) Z)) → nodes_of nodes ≡ nodes_of (take index nodes) + nodes_of (drop index nodes)
  nodes_split index nodes = ap nodes_of (sym (take-append-drop index nodes)) ∙ sum_by-append (λ (node : Arc (Branch T) Z). node.value.below + 1) (take index nodes) (drop index nodes)

  pub nodes_some : (nodes : List (Arc (Branch T) Z)) → 0 < length nodes → 0 < nodes_of nodes
  nodes_some [] some = absurd (omega arith)
  nodes_some (node ∷ nodes) some = omega (arith, sum_by-cons (λ (each : Arc (Branch T) Z). each.value.below + 1) node nodes)

  -- a node and those behind it are some of all of them
  pub nodes_from : (nodes : List (Arc (Branch T) Z)) (index : ℕ) (node : Arc (Branch T) Z) → index < length nodes → node ≡ get_or nodes index node → node.value.below + 1 + nodes_of (drop (index + 1) nodes) ≤ nodes_of nodes
  nodes_from nodes index node within is =
      let here : drop index nodes ≡ node ∷ drop (index + 1) nodes = drop_more nodes index node within ∙ ap (λ first. first ∷ drop (index + 1) nodes) (sym is) in
      let from = ap nodes_of here in
      omega (arith, nodes_split index nodes, sum_by-cons (λ (each : Arc (Branch T) Z). each.value.below + 1) node (drop (index + 1) nodes))
