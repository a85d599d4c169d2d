use Rattle.disk_model.proofs.JudgedOnce.{judged-once, one-database}
use Rattle.disk_model.proofs.laws.areas_are_judged_in_one_way.Goals as goal

pub returns-clause-judged : goal.returns-clause-judged
returns-clause-judged c = judged-once

pub returns-clause-database : goal.returns-clause-database
returns-clause-database c = one-database
