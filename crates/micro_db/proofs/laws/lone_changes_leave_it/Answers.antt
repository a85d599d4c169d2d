use Rattle.micro_db.proofs.LoneLemmas.{lone-stands}
use Rattle.micro_db.proofs.laws.lone_changes_leave_it.Goals as goal

pub returns : goal.returns
returns c = λ before after changes micro ordered also owner schema lead lone. lone-stands before after changes ordered also owner schema lead lone micro
