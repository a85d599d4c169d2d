use Rattle.std.proofs.Common.{length, subst, arith}
use Rattle.std.specs.Prelude.{◌==◌, ◌-◌}
use Rattle.std.proofs.lemmas.Bool.{eqb-true}
use Rattle.page_model.specs.Page.{joined}
use Rattle.page_tree.specs.Branch.{Branch}
use Rattle.page_tree.specs.Held.{HoldsRun}
use Rattle.page_tree.proofs.LikelyLemmas.{held_among}
use Rattle.page_tree.proofs.likely.+likely.Goals as goal

-- A run of the node is one of all nodes.
pub likely_among-returns : goal.likely_among-returns
likely_among-returns g t c =
    let nodes = c.args.nodes.now in
    let number = c.saturating_sub-number.result in
    let within = c.if-number-nodes.false in
    held_among nodes number c.index-nodes-number.result c.in_ok-run.field-0.run.now c.in_ok-run.field-0.last (number == length nodes - 1) (omega (arith, within)) c.index-nodes-number.is
    (λ same. let end = eqb-true number (length nodes - 1) same in omega (arith, end))
    (subst (λ (branch : Branch g.row.T.Denot). HoldsRun (joined branch.pages) c.in_ok-run.field-0.run.now c.in_ok-run.field-0.last) c.deref.ensures c.in_ok-run.ensures)
