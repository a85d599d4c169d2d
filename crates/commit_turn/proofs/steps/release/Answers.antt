use Rattle.std.proofs.Common.{rules}
use Rattle.commit_turn.proofs.Taking.{releases}
use Rattle.commit_turn.proofs.steps.release.Goals as goal

pub store-requires : goal.store-requires
store-requires g c = (search rules, search rules, releases _ _ _ _ _ _ _ c.requires.counted.0 c.requires.shape.1 c.requires.counted.1 c.requires.view.0 c.requires.view.1 c.requires.counted.2 c.requires.counted.3)
