use Rattle.disk_model.proofs.SoundAfter.{sound-after, sound-followed}
use Rattle.disk_model.proofs.laws.lawful_commits_leave_a_sound_database.Goals as goal

pub returns-clause-one : goal.returns-clause-one
returns-clause-one c = sound-after

pub returns-clause-several : goal.returns-clause-several
returns-clause-several c = sound-followed

pub returns-clause-store : goal.returns-clause-store
returns-clause-store c = λ image commits db number is. sound-followed is.begin commits db is.lawful.sound is.followed
