-- An opening of the store, and what is true of it after some calls.
use Rattle.std.specs.Prelude.{◌≡◌, ℕ, List, Some, true}
use Rattle.own_model.specs.declared.reply.Reply.{Reply}
use Rattle.own_model.specs.Db.{Db}
use Rattle.history_model.specs.History.{History, is_disk, reply, standing}
use Rattle.history_model.specs.World.{Block, Open}
use Rattle.crash_model.specs.LeftBy.{IsLeftBy}
use Rattle.engine_core.specs.Seen.{Seen, disk_of}

-- The disk as it is now, the database that the store was opened with, how many commits had made that, and the history of the calls
-- made since.
pub record Opening (D : Type 0) : Type 0 where
  pub disk : D
  pub base : Db
  pub start : ℕ
  pub history : History

-- the opening of an engine
abbrev pub opening_of : {D : Type 0} → Seen D → Opening D
opening_of seen = record { disk = disk_of seen; base = seen.base; start = seen.start; history = seen.history }

-- two areas hold what its history says: all of the commits, or with them the one that the disk failed
abbrev pub IsLeftOver : {D : Type 0} → Opening D → List ℕ → List ℕ → Type 0
IsLeftOver opening a b = IsLeftBy opening.base opening.start opening.history a b

-- a call of a history was answered with a fault of the disk
pub record IsFailedIn (base : Db) (history : History) : Type 0 where
  pub place : ℕ
  pub told : Reply
  pub at : reply base history place ≡ Some told
  pub is : is_disk told ≡ true

abbrev pub HasFailed : {D : Type 0} → Opening D → Type 0
HasFailed opening = IsFailedIn opening.base opening.history

-- no session is in a transaction
abbrev pub IsAtRest : {D : Type 0} → Opening D → Type 0
IsAtRest opening = (session begun : ℕ) (block : Block) → standing opening.base opening.history session ≡ Open begun block → ⊥
