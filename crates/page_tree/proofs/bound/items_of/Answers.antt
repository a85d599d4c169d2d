use Rattle.std.proofs.Common.{◌≡◌, ◌∙◌, ◌+◌, ap, length, length-append, drop, take, arith}
use Rattle.page_model.specs.Page.{joined}
use Rattle.page_tree.specs.Body.{pages_of}
use Rattle.page_tree.proofs.NodeLemmas.{items_from, items_split}
use Rattle.page_tree.proofs.bound.items_of.Goals as goal

-- No more than all.
pub overflow_add-items : goal.overflow_add-items
overflow_add-items g c =
    let nodes = c.args.nodes.now in
    let index = c.loop-node.node-index in
    let own = joined c.node-item.result.value.pages in
    let behind = joined (pages_of (drop (index + 1) nodes)) in
    let counted : c.items-items.result ≡ length own = cc in
    let kept : c.loop-node.items ≡ length (joined (pages_of (take index nodes))) = c.loop-node.invariant in
    let all : length (joined (pages_of nodes)) ≡ length (joined (pages_of (take index nodes))) + length (joined (pages_of (drop index nodes))) =
    ap length (items_split index nodes) ∙ length-append (joined (pages_of (take index nodes))) (joined (pages_of (drop index nodes))) in
    let from : length (joined (pages_of (drop index nodes))) ≡ length own + length behind =
    ap length (items_from nodes index c.node-item.result c.loop-node-test.true c.node-item.is) ∙ length-append own behind in
    omega (arith, c.requires)
