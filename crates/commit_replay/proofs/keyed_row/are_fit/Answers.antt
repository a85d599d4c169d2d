use Rattle.std.proofs.Common.{◌≡◌, true, false}
use Rattle.commit_replay.proofs.FitLemmas.{fit-length}
use Rattle.commit_replay.proofs.keyed_row.are_fit.Goals as goal

pub returns-then-columns-values : goal.returns-then-columns-values
returns-then-columns-values c = ((λ is. let never : false ≡ true = is in absurd (cc)), λ fit. absurd (c.if-columns-values.true (fit-length c.args.columns.now c.args.values.now fit)))
