use Rattle.query_eval.proofs.FoundWeaker.{some_weaker}
use Rattle.query_eval.proofs.WantedLemmas.{wanted-every}
use Rattle.query_eval.proofs.wanted.wanted_in.Goals as goal

-- The condition is the AND of its parts.
pub returns-in-Every : goal.returns-in-Every
returns-in-Every c =
    some_weaker _ _ (λ value own. wanted-every c.args.cond.now c.in-Every.parts c.items.result.now c.args.column.0 value.now c.in-Every.is c.items.ensures own) c.wanted_by_each.result c.wanted_by_each.ensures
