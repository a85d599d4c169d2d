-- Going on to what a commit leads to.
use Rattle.std.specs.Prelude.{◌≡◌, Bool, true, false, Option, None, Some}
use Rattle.own_model.specs.Db.{Db}
use Rattle.commit_replay.specs.declared.followed.Followed.{Followed}

-- the version that follows, where one does, takes the place of the one before it
abbrev pub IsGoneOn : Db → Option Followed → Db → Bool → Type 0
IsGoneOn before (Some followed) after went = (after ≡ followed.next) × (went ≡ true)
IsGoneOn before None after went = (after ≡ before) × (went ≡ false)
