use Rattle.std.proofs.Common.{◌≡◌, length, arith, subst}
use Rattle.page_model.specs.Page.{joined}
use Rattle.page_model.specs.Run.{IsRunFrom}
use Rattle.page_tree.specs.Body.{pages_of}
use Rattle.page_tree.specs.Branch.{Branch}
use Rattle.page_tree.proofs.WalkLemmas.{run_here, run_later}
use Rattle.page_tree.proofs.node.+run.Goals as goal

pub run_among-returns-then-left-count : goal.run_among-returns-then-left-count
run_among-returns-then-left-count g t c =
    let counted : c.items-count.result ≡ length (joined c.node-item.result.value.pages) = cc in
    let run : IsRunFrom (joined c.node-item.result.value.pages) c.loop-node.left c.run_from.result.now = subst (λ (branch : Branch g.row.T.Denot). IsRunFrom (joined branch.pages) c.loop-node.left c.run_from.result.now) c.deref-then-left-count.ensures c.run_from.ensures in
    run_here c.args.nodes.now c.loop-node.node-index c.loop-node.left c.node-item.result (joined (pages_of c.args.nodes.now)) c.args.place c.run_from.result.now c.loop-node-test.true c.node-item.is (omega arith) c.loop-node.invariant run

pub run_among-loop-node-preserved : goal.run_among-loop-node-preserved
run_among-loop-node-preserved g t c =
    let counted : c.items-count.result ≡ length (joined c.node-item.result.value.pages) = cc in
    let later = run_later c.args.nodes.now c.loop-node.node-index c.loop-node.left c.node-item.result c.loop-node-test.true c.node-item.is (omega arith) in
    cc
