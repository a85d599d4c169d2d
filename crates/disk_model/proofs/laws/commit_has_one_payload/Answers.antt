use Rattle.disk_model.proofs.Spelled.{payload-of_spelling, payload-spelled}
use Rattle.disk_model.proofs.laws.commit_has_one_payload.Goals as goal

pub returns-clause-spelled : goal.returns-clause-spelled
returns-clause-spelled c = λ commit bytes is. (payload-spelled commit bytes is).0

pub returns-clause-bounded : goal.returns-clause-bounded
returns-clause-bounded c = λ commit bytes is. let own = payload-spelled commit bytes is in (own.1, own.2)

pub returns-clause-written : goal.returns-clause-written
returns-clause-written c = payload-of_spelling
