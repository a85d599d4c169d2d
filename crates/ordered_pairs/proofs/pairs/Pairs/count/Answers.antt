use Rattle.std.proofs.Common.{sym}
use Rattle.ordered_pairs.proofs.RangeLemmas.{rights_length}
use Rattle.ordered_pairs.proofs.pairs.Pairs.count.Goals as goal

pub returns-clause-count : goal.returns-clause-count
returns-clause-count g c = sym (rights_length g.A.Ordered.order c.args.self.now c.args.left.now c.range-from.result.0 c.range-from.result.1 c.range-from.ensures.range)
