use Rattle.crash_model.proofs.LeftLemmas.{after-all}
use Rattle.crash_model.proofs.laws.all_commits_leave_the_flat_database.Goals as goal

pub returns : goal.returns
returns c = after-all
