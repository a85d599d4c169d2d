use Rattle.std.proofs.Common.{◌≡◌, ◌++◌, ◌+◌, length, take}
use Rattle.page_tree.specs.Body.{pages_of}
use Rattle.page_tree.proofs.build.push_nodes.Given as goal

-- the pages of the nodes so far stand last
abbrev pub invariant-loop-node : goal.invariant-loop-node
invariant-loop-node g l =
    record {
      pages : pages_of l.made.items ≡ pages_of l.fn.made.items ++ pages_of (take l.node-index l.nodes);
      count : length l.made.items ≡ length l.fn.made.items + l.node-index;
    }
