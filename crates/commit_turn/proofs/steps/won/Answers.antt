use Rattle.std.proofs.Common.{rules}
use Rattle.commit_turn.proofs.Taking.{takes_turn}
use Rattle.commit_turn.proofs.steps.won.Goals as goal

pub compare_exchange-requires : goal.compare_exchange-requires
compare_exchange-requires g c = (search rules, search rules, takes_turn _ _ _ _ _ _ _ c.requires.seat.1 c.requires.view.0 c.requires.view.1)
