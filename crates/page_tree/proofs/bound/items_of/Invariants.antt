use Rattle.std.proofs.Common.{◌≡◌, length, take}
use Rattle.page_model.specs.Page.{joined}
use Rattle.page_tree.specs.Body.{pages_of}
use Rattle.page_tree.proofs.bound.items_of.Given as goal

-- those of the nodes so far
abbrev pub invariant-loop-node : goal.invariant-loop-node
invariant-loop-node g l = l.items ≡ length (joined (pages_of (take l.node-index l.nodes)))
