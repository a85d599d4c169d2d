use Rattle.std.proofs.Common.{◌≡◌, length, arith}
use Rattle.page_model.specs.Page.{joined}
use Rattle.page_tree.proofs.NodeLemmas.{item_here, item_later}
use Rattle.page_tree.proofs.node.+at.Goals as goal

pub at_among-returns-then-left-count : goal.at_among-returns-then-left-count
at_among-returns-then-left-count g t c =
    let counted : c.items-count.result ≡ length (joined c.node-item.result.value.pages) = cc in
    let here = item_here c.args.nodes.now c.loop-node.node-index c.loop-node.left c.node-item.result c.loop-node-test.true c.node-item.is (omega arith) in
    cc

pub at_among-loop-node-preserved : goal.at_among-loop-node-preserved
at_among-loop-node-preserved g t c =
    let counted : c.items-count.result ≡ length (joined c.node-item.result.value.pages) = cc in
    let later = item_later c.args.nodes.now c.loop-node.node-index c.loop-node.left c.node-item.result c.loop-node-test.true c.node-item.is (omega arith) in
    cc
