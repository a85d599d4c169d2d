-- What becomes of a state by a commit.
use Rattle.std.specs.Prelude.{◌≡◌, Bool, true, false}
use Rattle.own_model.specs.Db.{Db}
use Rattle.disk_model.specs.declared.commit.Commit.{Commit}
use Rattle.disk_model.specs.Follows.{Follows}

-- the commit is lawful and leaves what comes after; or it isn't, whatever it were to leave, and what was there stays
abbrev pub IsFollowed : Db → Commit → Db → Bool → Type 0
IsFollowed before commit after true = Follows before commit after
IsFollowed before commit after false = (after ≡ before) × ((other : Db) → ¬ Follows before commit other)
