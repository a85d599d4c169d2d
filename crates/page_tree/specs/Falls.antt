-- A node has more nodes below it than each of its kids has.
use Rattle.std.specs.Prelude.{◌+◌, ◌≤◌, ℕ, List, [], ◌∷◌, sum_by}
use Rattle.std.proofs.Common.{Global, arith}
use Rattle.std.proofs.lemmas.List.Sums.{sum_by-cons}
use Rattle.std.specs.declared.sync.Arc.{Arc}
use Prim.Native.Nat.{max}
use denote.Param.Weighed.{most}
use Rattle.page_tree.specs.Branch.{Branch}
use Rattle.page_tree.specs.Body.{branch_of}
use Rattle.page_tree.specs.declared.node.Body.{Body}
use Rattle.page_tree.specs.declared.node.Body.TheVariants.{Leaf, Inner}
use Rattle.page_tree.specs.declared.node.Node.TheDeep.{deep-Body}

-- the greatest of some numbers is no more than all together
most-le : {X : Type 0} (n : X → ℕ) (xs : List X) → most n xs ≤ sum_by n xs
most-le n [] = omega arith
most-le n (x ∷ xs) = omega (arith, most-le n xs, sum_by-cons n x xs)

pub falls : {T : Type 0} (body : Body T) → max (deep-Body T body) 0 ≤ (branch_of body).below
falls (Leaf page) = omega arith
falls {T} (Inner kids) = omega (arith, most-le (λ (kid : Arc (Branch T) Global). kid.value.below + 1) kids.items)
