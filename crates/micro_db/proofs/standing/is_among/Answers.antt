use Rattle.std.proofs.Common.{◌∙◌}
use Rattle.owner_index.proofs.SearchLemmas.{searched}
use Rattle.micro_db.proofs.standing.is_among.Goals as goal

pub returns : goal.returns
returns c = λ rising. c.is_ok.ensures.value ∙ searched c.args.subject.now c.args.subjects.now c.binary_search.result c.binary_search.ensures.bound c.binary_search.ensures.position rising
