use Rattle.std.proofs.Common.{◌≡◌, length, arith}
use Rattle.page_tree.proofs.NodeLemmas.{page_here, page_later}
use Rattle.page_tree.proofs.node.+page.Goals as goal

pub page_among-returns-then-left-count : goal.page_among-returns-then-left-count
page_among-returns-then-left-count g t c =
    let counted : c.pages-count.result ≡ length c.node-item.result.value.pages = cc in
    let here = page_here c.args.nodes.now c.loop-node.node-index c.loop-node.left c.node-item.result c.loop-node-test.true c.node-item.is (omega arith) in
    cc

pub page_among-loop-node-preserved : goal.page_among-loop-node-preserved
page_among-loop-node-preserved g t c =
    let counted : c.pages-count.result ≡ length c.node-item.result.value.pages = cc in
    let later = page_later c.args.nodes.now c.loop-node.node-index c.loop-node.left c.node-item.result c.loop-node-test.true c.node-item.is (omega arith) in
    cc
