-- What calls do to the disk of a store, as a history grows by them.
use Rattle.std.specs.Prelude.{◌≡◌, ◌⊎◌, ◌≤◌, ℕ, List, Bool, true, false, Contains, IsTrue, length}
use Rattle.own_model.specs.declared.history.Entry.{Entry}
use Rattle.own_model.specs.declared.history.Verdict.TheVariants.{DiskFault}
use Rattle.own_model.specs.Db.{Db}
use Rattle.outer_world.specs.FaultCount.{CountRose}
use Rattle.outer_world.specs.LeavesOnly.{LeavesOnly}
use Rattle.history_model.specs.Fails.{HasFailed, TellsFailure, fails_at}
use Rattle.history_model.specs.History.{History}
use Rattle.crash_model.specs.LeftBy.{IsLeftBy, IsLeftOf}

-- a crash leaves what the one history says, or the other
abbrev pub IsLeftByEither : Db → ℕ → History → History → List ℕ → List ℕ → Type 0
IsLeftByEither base start before after a b = IsLeftBy base start before a b ⊎ IsLeftBy base start after a b

-- What calls did to the disk that made a history from the opening of a store on, whose database so many commits had made.
-- Its count of faults rose just where an entry was answered so, and it failed no entry where it didn't rise.
pub record MovesDisk {D : Type 0} (moment : D → ℕ) (might_have_left : D → ℕ → List ℕ → List ℕ → Type 0) (honest : D → Bool) (faults : D → ℕ)
    (base : Db) (start : ℕ) (history : History) (old new : D) : Type 0 where
  pub honesty : honest new ≡ honest old
  pub time : moment old ≤ moment new
  pub risen : faults old ≤ faults new
  pub rose : HasFailed base history → CountRose (faults old) (faults new)
  pub steady : TellsFailure false base history → faults new ≡ faults old
  pub told : (entry : Entry) → Contains history entry → entry.verdict ≡ DiskFault → CountRose (faults old) (faults new)
  -- a crash leaves the first commits, or with all of them the one that the disk failed
  pub moments : IsTrue (honest old) → LeavesOnly moment might_have_left (IsLeftOf base start history) old new

-- what one call did to it, which made the history grow
pub record MovesDiskOnce {D : Type 0} (moment : D → ℕ) (might_have_left : D → ℕ → List ℕ → List ℕ → Type 0) (honest : D → Bool) (faults : D → ℕ)
    (base : Db) (start : ℕ) (before after : History) (old new : D) : Type 0 where
  pub honesty : honest new ≡ honest old
  pub time : moment old ≤ moment new
  pub risen : faults old ≤ faults new
  pub rose : fails_at base after (length before) ≡ true → CountRose (faults old) (faults new)
  pub steady : fails_at base after (length before) ≡ false → faults new ≡ faults old
  pub told : (entry : Entry) → Contains after entry → entry.verdict ≡ DiskFault → Contains before entry ⊎ CountRose (faults old) (faults new)
  pub moments : IsTrue (honest old) → (new ≡ old) ⊎ LeavesOnly moment might_have_left (IsLeftByEither base start before after) old new
