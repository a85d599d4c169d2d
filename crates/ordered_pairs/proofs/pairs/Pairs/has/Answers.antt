use Rattle.std.proofs.Common.{rules}
use Rattle.ordered_pairs.specs.Has.{has}
use Rattle.ordered_pairs.proofs.pairs.Pairs.has.Goals as goal

-- A pair is among them where one is found.
pub returns : goal.returns
unfolding has
returns g c = search rules
