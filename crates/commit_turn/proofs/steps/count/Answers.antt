use Rattle.std.proofs.Common.{rules}
use Rattle.commit_turn.proofs.Counting.{counts}
use Rattle.commit_turn.proofs.steps.count.Goals as goal

pub store-requires : goal.store-requires
store-requires g c = (search rules, search rules, counts _ _ _ _ _ _ _ c.requires.counts.0 _ c.requires.counts.1 c.requires.view.0 c.requires.view.1 c.requires.counts.2 c.requires.counts.3)
