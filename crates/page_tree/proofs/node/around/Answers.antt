use Rattle.std.proofs.Common.{◌≡◌, ◌++◌, ◌+◌, ◌≤◌, drop, sym, subst}
use Rattle.page_tree.specs.Body.{nodes_of, pages_of}
use Rattle.page_tree.specs.Branch.{Branch}
use Rattle.page_tree.proofs.NodeLemmas.{nodes_from, pages_from}
use Rattle.page_tree.proofs.node.around.Goals as goal

pub returns : goal.returns
returns g c =
    let nodes = c.args.nodes.now in
    let number = c.args.number in
    let node = c.index-nodes-number.result in
    let behind = c.split_at-2.ensures.back in
    record {
      front = c.split_at.ensures.front;
      behind = behind;
      pages = rw behind (subst (λ (branch : Branch g.row.T.Denot). pages_of (drop number nodes) ≡ branch.pages ++ pages_of (drop (number + 1) nodes)) (sym c.deref.ensures) (pages_from nodes number node c.requires c.index-nodes-number.is));
      fewer = rw behind (subst (λ (branch : Branch g.row.T.Denot). branch.below + 1 + nodes_of (drop (number + 1) nodes) ≤ nodes_of nodes) (sym c.deref.ensures) (nodes_from nodes number node c.requires c.index-nodes-number.is));
    }
