use Rattle.query_eval.proofs.FoundWeaker.{some_with}
use Rattle.query_eval.proofs.WantedLemmas.{wanted-compare}
use Rattle.query_eval.proofs.wanted.wanted_by.Goals as goal

-- The condition is that comparison.
pub returns-in-Compare : goal.returns-in-Compare
returns-in-Compare c =
    some_with _ _ _ _ c.wanted_of.result c.wanted_of.ensures.column c.wanted_of.ensures.sign c.wanted_of.ensures.value
    (λ value same equal own. wanted-compare c.args.part.now c.in-Compare.own c.args.column c.in-Compare.sign c.in-Compare.right value.now c.in-Compare.is same equal own.0 own.1)
