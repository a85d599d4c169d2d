use Rattle.std.proofs.Common.{◌≡◌, length}
use Rattle.page_tree.specs.Body.{pages_of}
use Rattle.page_tree.proofs.pages.rooted.Given as goal

-- the pages are the same
abbrev pub invariant-above : goal.invariant-above
invariant-above g l = pages_of l.top.items ≡ pages_of l.fn.nodes.items

abbrev pub decreases-above : goal.decreases-above
decreases-above g l = length l.top.items
