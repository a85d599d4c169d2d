use Rattle.std.proofs.Common.{◌+◌, List, subst}
use Rattle.page_model.specs.Run.{IsRunFrom}
use Rattle.ordered_pairs.proofs.RangeLemmas.{run_left, run_past, run_within}
use Rattle.ordered_pairs.proofs.pairs.Pairs.run_from.Goals as goal

-- Past the end there is none.
pub returns-then-upto-from-clause-run : goal.returns-then-upto-from-clause-run
returns-then-upto-from-clause-run g c = run_past g.A.Ordered.order c.args.self.now c.args.left.now c.range-from.result.0 c.range-from.result.1 c.range-from.ensures.range c.args.place c.if-upto-from.true

-- What of the run has the value.
pub returns-clause-run : goal.returns-clause-run
returns-clause-run g c =
    let is = subst (λ (pairs : List (g.row.A.Denot × g.row.B.Denot)). IsRunFrom pairs (c.range-from.result.0 + c.args.place) c.run_from-run.result.now) c.self.view_is c.run_from-run.ensures in
    run_within g.A.Ordered.order c.args.self.now c.args.left.now c.range-from.result.0 c.range-from.result.1 c.range-from.ensures.range c.args.place c.run_from-run.result.now c.min.result c.if-upto-from.false is c.min.ensures

pub returns-clause-left : goal.returns-clause-left
returns-clause-left g c =
    let is = subst (λ (pairs : List (g.row.A.Denot × g.row.B.Denot)). IsRunFrom pairs (c.range-from.result.0 + c.args.place) c.run_from-run.result.now) c.self.view_is c.run_from-run.ensures in
    run_left g.A.Ordered.order c.args.self.now c.args.left.now c.range-from.result.0 c.range-from.result.1 c.range-from.ensures.range g.met.A.Ordered.exact c.args.place c.run_from-run.result.now c.min.result c.if-upto-from.false is c.min.ensures
