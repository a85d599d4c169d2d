use Rattle.std.proofs.Common.{ap, sym, subst}
use Rattle.txn_space.specs.Entries.{seen}
use Rattle.txn_space.specs.Sound.{IsSpaceOf}
use Rattle.txn_space.proofs.SoundLemmas.{none_sound}
use Rattle.txn_space.proofs.space.Space.new.Goals as goal

pub returns-clause-sound : goal.returns-clause-sound
returns-clause-sound c = λ tables. subst (IsSpaceOf tables) (sym (ap seen c.new.ensures)) (none_sound tables)
