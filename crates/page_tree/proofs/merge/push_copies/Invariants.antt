use Rattle.std.proofs.Common.{◌≡◌, ◌++◌, take}
use Rattle.page_tree.proofs.merge.push_copies.Given as goal

-- the items so far stand last
abbrev pub invariant-loop-item : goal.invariant-loop-item
invariant-loop-item g l = l.made.items.items ≡ l.fn.made.items.items ++ take l.item-index l.items
