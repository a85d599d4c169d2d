use Rattle.query_eval.proofs.WantedLemmas.{wanted-part}
use Rattle.query_eval.proofs.wanted.wanted_by_each.Goals as goal

-- Where the AND is True, so is this part.
pub returns-in-Some : goal.returns-in-Some
returns-in-Some c = wanted-part c.args.parts.now c.loop-part.part-index c.part-item.result c.args.column.0 c.in-Some.value.now c.loop-part-test.true c.part-item.is c.in-Some.ensures
