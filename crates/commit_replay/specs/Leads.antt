-- What a commit leads to, made beside the state that stands.
use Rattle.std.specs.Prelude.{◌≡◌, Option, Some, None, Result, Ok, Err}
use Rattle.own_model.specs.Db.{Db}
use Rattle.state_model.specs.Weight.{weight}
use Rattle.disk_model.specs.declared.commit.Commit.{Commit}
use Rattle.disk_model.specs.Follows.{Follows}
use Rattle.commit_replay.specs.declared.followed.Followed.{Followed}

-- a version that follows, with its weight; or none may follow; or memory was refused
abbrev pub Leads : {E : Type 0} → Db → Commit → Result (Option Followed) E → Type 0
Leads before commit (Ok (Some followed)) = Follows before commit followed.next × (weight followed.next ≡ followed.weighs)
Leads before commit (Ok None) = (after : Db) → ¬ Follows before commit after
Leads before commit (Err refused) = Unit {0}
