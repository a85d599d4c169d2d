-- What a crash leaves of a history, over a database that so many commits made.
use Rattle.std.specs.Prelude.{◌≡◌, ℕ, ◌+◌, ◌≤◌, ◌⊎◌, List, [], ◌∷◌, ◌++◌, Some, length, slice_get, take}
use Rattle.own_model.specs.declared.history.Entry.{Entry}
use Rattle.own_model.specs.declared.history.Verdict.TheVariants.{Took}
use Rattle.own_model.specs.declared.refusal.Refusal.TheVariants.{Disk}
use Rattle.own_model.specs.declared.reply.Reply.TheVariants.{Refused}
use Rattle.own_model.specs.Db.{Db}
use Rattle.history_model.specs.AsksDisk.{under}
use Rattle.history_model.specs.Commits.{after, commits}
use Rattle.history_model.specs.History.{History, flat, reply}
use Rattle.crash_model.specs.StoreIn.{IsStoreIn}

-- two areas hold the store of all commits of the history
abbrev pub IsWhole : Db → ℕ → History → List ℕ → List ℕ → Type 0
IsWhole base number history a b = IsStoreIn a b (flat base history) (number + length (commits base history))

-- An entry was answered with a fault of the disk, and two areas hold the store of the history up to it and of that entry as
-- one that the disk took.
pub record IsLate (base : Db) (number : ℕ) (history : History) (a b : List ℕ) : Type 0 where
  pub place : ℕ
  pub late : Entry
  pub at : slice_get history place ≡ Some late
  pub failed : reply base history place ≡ Some (Refused Disk)
  pub is : IsWhole base number (take place history ++ under Took late ∷ []) a b

-- all commits, or with them the one that the disk failed
abbrev pub IsLeftBy : Db → ℕ → History → List ℕ → List ℕ → Type 0
IsLeftBy base number history a b = IsWhole base number history a b ⊎ IsLate base number history a b

-- two areas hold the store of the first commits of the history, so many of them
pub record IsOfFirst (base : Db) (number : ℕ) (history : History) (a b : List ℕ) : Type 0 where
  pub count : ℕ
  pub few : count ≤ length (commits base history)
  pub is : IsStoreIn a b (after base history count) (number + count)

-- the first commits, or with all of them the one that the disk failed
abbrev pub IsLeftOf : Db → ℕ → History → List ℕ → List ℕ → Type 0
IsLeftOf base number history a b = IsOfFirst base number history a b ⊎ IsLate base number history a b
