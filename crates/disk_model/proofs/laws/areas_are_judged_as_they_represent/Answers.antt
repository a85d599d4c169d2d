use Rattle.disk_model.proofs.JudgedStores.{judged-represented, represented-judged}
use Rattle.disk_model.proofs.laws.areas_are_judged_as_they_represent.Goals as goal

pub returns-clause-store : goal.returns-clause-store
returns-clause-store c = represented-judged

pub returns-clause-stored : goal.returns-clause-stored
returns-clause-stored c = judged-represented
