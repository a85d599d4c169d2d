-- What a node holds: a page, or nodes.
use Rattle.std.specs.Prelude.{◌+◌, ℕ, List, [], ◌∷◌, sum_by, Option, None, Some}
use Rattle.std.specs.List.{flat_map}
use Rattle.std.specs.declared.sync.Arc.{Arc}
use Rattle.page_tree.specs.Branch.{Branch}
use Rattle.page_tree.specs.declared.node.Body.{Body}
use Rattle.page_tree.specs.declared.node.Body.TheVariants.{Leaf, Inner}

-- the pages of nodes, in their order
abbrev pub pages_of : {T Z : Type 0} → List (Arc (Branch T) Z) → List (List T)
pages_of {T} {Z} kids = flat_map (λ (kid : Arc (Branch T) Z). kid.value.pages) kids

-- how many nodes these and those below them are
abbrev pub nodes_of : {T Z : Type 0} → List (Arc (Branch T) Z) → ℕ
nodes_of {T} {Z} kids = sum_by (λ (kid : Arc (Branch T) Z). kid.value.below + 1) kids

-- what is held, as pages
abbrev pub branch_of : {T : Type 0} → Body T → Branch T
branch_of (Leaf page) = record { pages = page.items ∷ []; below = 0 }
branch_of (Inner kids) = record { pages = pages_of kids.items; below = nodes_of kids.items }

-- the pages of the node at the top, where there is one
abbrev pub root_pages : {T Z : Type 0} → Option (Arc (Branch T) Z) → List (List T)
root_pages None = []
root_pages {T} {Z} (Some root) = root.value.pages
