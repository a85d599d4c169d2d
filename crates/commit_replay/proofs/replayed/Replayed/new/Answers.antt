use Rattle.commit_replay.proofs.Kept.{kept-empty}
use Rattle.commit_replay.proofs.replayed.Replayed.new.Goals as goal

pub invariant_of-result : goal.invariant_of-result
invariant_of-result c = kept-empty c.in_ok-version.version c.in_ok-version.ensures
