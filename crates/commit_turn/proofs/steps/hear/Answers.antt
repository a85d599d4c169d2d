use Rattle.std.proofs.Common.{rules}
use Rattle.commit_turn.proofs.Taking.{hears}
use Rattle.commit_turn.proofs.steps.hear.Goals as goal

pub load-requires : goal.load-requires
load-requires g c = (search rules, search rules, hears _ _ _ _ _ _ _ c.requires.live)
