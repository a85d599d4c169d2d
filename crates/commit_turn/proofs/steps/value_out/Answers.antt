use Rattle.std.proofs.Common.{rules, refl}
use Rattle.commit_turn.proofs.steps.value_out.Goals as goal

pub exchange-requires : goal.exchange-requires
exchange-requires g c = (search rules, rw c.requires.there.1 (_, refl))
