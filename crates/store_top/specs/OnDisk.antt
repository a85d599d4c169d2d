-- What a run did to its disk.
use Rattle.std.specs.Prelude.{◌≡◌, ◌≢◌, ◌⊎◌, ◌≤◌, ℕ, List, Bool, true, Contains, IsTrue, Option, None, Some}
use Rattle.outer_world.specs.FaultCount.{CountRose}
use Rattle.outer_world.specs.LeavesOnly.{LeavesOnly}
use Rattle.outer_world.specs.Stays.{Stays}
use Rattle.own_base.specs.declared.number.Area.{Area}
use Rattle.own_base.specs.declared.number.Area.TheVariants.{A, B}
use Rattle.own_model.specs.declared.history.Entry.{Entry}
use Rattle.own_model.specs.declared.history.Verdict.TheVariants.{DiskFault}
use Rattle.own_model.specs.Db.{Db}
use Rattle.history_model.specs.History.{History}
use Rattle.disk_model.specs.Judged.{IsJudged}
use Rattle.disk_model.specs.JudgedArea as found
use Rattle.crash_model.specs.Alone.{is_laid_behind}
use Rattle.crash_model.specs.LeavesSince.{LeavesSince}
use Rattle.crash_model.specs.LeftBy.{IsLeftBy, IsLeftOf}
use Rattle.crash_model.specs.Room.{IsNoRoomExact, JournalEnd}
use Rattle.crash_model.specs.StoreIn.{IsStoreIn}
use Rattle.crash_recover.specs.Opening.{IsLeft}
use Rattle.store_disk.specs.OpensAt.{OpensAt}
use Rattle.engine_core.specs.Seen.{IsAloneBehind}
use Rattle.store_top.specs.declared.served.TopFault.{TopFault}
use Rattle.store_top.specs.declared.served.TopFault.TheVariants.{Disk, Damaged}
use Rattle.history_model.specs.Fails.{HasFailed}
use Rattle.store_top.specs.Top.{IsBeforeOpening}

-- What an honest disk holds is damaged there, and both areas stay as they were.
pub record IsFoundDamaged {D : Type 0} (holds : D → Area → List ℕ) (leaves : D → Area → List ℕ → Type 0) (old new : D) (area : Area) (offset : ℕ) : Type 0 where
  pub judged : IsJudged (holds old A) (holds old B) (found.Damaged area offset)
  pub kept_a : Stays holds leaves A old new
  pub kept_b : Stays holds leaves B old new

-- An honest disk held this database, which so many commits had made, and calls made a history over it. A crash of what the
-- disk is now leaves what all of the history says.
pub record IsServedOver {D : Type 0} (holds : D → Area → List ℕ) (leaves : D → Area → List ℕ → Type 0) (old new : D) (base : Db) (history : History) : Type 0 where
  pub start : ℕ
  pub store : IsStoreIn (holds old A) (holds old B) base start
  pub left : (a b : List ℕ) → leaves new A a → leaves new B b → IsLeftBy base start history a b
  -- Its journal stood where the bytes of its areas say; from there on an entry found no room just where it asked the disk, and
  -- needed more than a journal may have.
  pub area : Area
  pub journal : JournalEnd
  pub opens : OpensAt (holds old A) (holds old B) area journal.epoch journal.end
  pub exact : IsNoRoomExact journal base start history
  -- Where the last call that wrote to the disk laid the store anew, as a CHECKPOINT and an erasure do, and none behind it failed to
  -- write, nothing but the flat database is on the disk, for what reads give and for every crash.
  pub alone : is_laid_behind base history ≡ true → IsAloneBehind holds leaves new journal base start history

-- The same, where calls were made one after another. A crash at any moment of the run leaves what one might have left before, or the
-- database of before; or what the history says up to some place.
pub record IsServedOn {D : Type 0} (holds : D → Area → List ℕ) (leaves : D → Area → List ℕ → Type 0) (moment : D → ℕ) (might_have_left : D → ℕ → List ℕ → List ℕ → Type 0)
    (old new : D) (base : Db) (history : History) : Type 0 where
  pub over : IsServedOver holds leaves old new base history
  pub moments : LeavesOnly moment might_have_left (λ a b. IsLeft holds leaves old a b ⊎ IsLeftOf base over.start history a b) old new

-- The same, where sessions made them side by side. There is a moment, no earlier than the run's beginning, such that a crash at any
-- moment from it on leaves what the history says up to some place. Which moment that is isn't told, so this says little of the run itself
-- and much of the disk that it leaves.
pub record IsServedSince {D : Type 0} (holds : D → Area → List ℕ) (leaves : D → Area → List ℕ → Type 0) (moment : D → ℕ) (might_have_left : D → ℕ → List ℕ → List ℕ → Type 0)
    (old new : D) (base : Db) (history : History) : Type 0 where
  pub over : IsServedOver holds leaves old new base history
  pub opening : ℕ
  pub later : moment old ≤ opening
  pub moments : LeavesSince moment might_have_left opening (IsLeftOf base over.start history) new

-- What a run did to its disk, by the database that was opened, by the history of the calls that it made and by its fault; of a store
-- that was opened on an honest disk `Served` is so.
pub record OnDiskBy {D : Type 0} (holds : D → Area → List ℕ) (leaves : D → Area → List ℕ → Type 0) (moment : D → ℕ) (might_have_left : D → ℕ → List ℕ → List ℕ → Type 0)
    (honest : D → Bool) (faults : D → ℕ) (old new : D) (opened : Option Db) (history : History) (Served : Db → Type 0) (fault : Option TopFault) : Type 0 where
  -- A fault of the disk is told, a call answered so, and an entry said to be one that the disk failed, only where its count of faults
  -- rose; else that stands still.
  pub rose : fault ≡ Some Disk → CountRose (faults old) (faults new)
  pub failed : (base : Db) → opened ≡ Some base → HasFailed base history → CountRose (faults old) (faults new)
  pub told : (base : Db) → opened ≡ Some base → (entry : Entry) → Contains history entry → entry.verdict ≡ DiskFault → CountRose (faults old) (faults new)
  pub steady : fault ≢ Some Disk → ((base : Db) → opened ≡ Some base → HasFailed base history → ⊥) → faults new ≡ faults old
  pub whole : fault ≡ None → faults new ≡ faults old
  pub risen : faults old ≤ faults new
  -- Before the opening the disk is left as it is.
  pub untouched : IsBeforeOpening fault → new ≡ old
  pub damaged : (area : Area) (offset : ℕ) → fault ≡ Some (Damaged area offset) → IsTrue (honest old) → IsFoundDamaged holds leaves old new area offset
  -- What it tells of its bytes is as much so as before, and its moment doesn't fall.
  pub honesty : honest new ≡ honest old
  pub time : moment old ≤ moment new
  -- What a crash leaves, of an honest disk: where no store was opened, what one might have left before, or the same database.
  pub unopened : opened ≡ None → IsTrue (honest old) → LeavesOnly moment might_have_left (IsLeft holds leaves old) old new
  pub served : (base : Db) → opened ≡ Some base → IsTrue (honest old) → Served base

-- in modes step and make
abbrev pub OnDisk : {D : Type 0} → (D → Area → List ℕ) → (D → Area → List ℕ → Type 0) → (D → ℕ) → (D → ℕ → List ℕ → List ℕ → Type 0) → (D → Bool) → (D → ℕ)
    → D → D → Option Db → History → Option TopFault → Type 0
OnDisk holds leaves moment might_have_left honest faults old new opened history fault =
    OnDiskBy holds leaves moment might_have_left honest faults old new opened history (λ base. IsServedOn holds leaves moment might_have_left old new base history) fault

-- in mode serve
abbrev pub OnDiskTogether : {D : Type 0} → (D → Area → List ℕ) → (D → Area → List ℕ → Type 0) → (D → ℕ) → (D → ℕ → List ℕ → List ℕ → Type 0) → (D → Bool) → (D → ℕ)
    → D → D → Option Db → History → Option TopFault → Type 0
OnDiskTogether holds leaves moment might_have_left honest faults old new opened history fault =
    OnDiskBy holds leaves moment might_have_left honest faults old new opened history (λ base. IsServedSince holds leaves moment might_have_left old new base history) fault
