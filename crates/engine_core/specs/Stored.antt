-- What becomes of the disk of a store over a call.
use Rattle.std.specs.Prelude.{◌≡◌, ◌≢◌, ◌≤◌, ◌+◌, ◌⊎◌, ℕ, List, Bool, true, false, Result, Ok, Err, IsTrue, if◌then◌else◌}
use Rattle.own_base.specs.declared.number.Area.{Area}
use Rattle.own_model.specs.declared.history.Entry.{Entry}
use Rattle.own_model.specs.declared.history.Verdict.{Verdict}
use Rattle.own_model.specs.declared.history.Verdict.TheVariants.{Took, DiskFault, NoRoom}
use Rattle.own_model.specs.declared.reply.Reply.{Reply}
use Rattle.own_model.specs.Db.{Db}
use Rattle.outer_world.specs.FaultCount.{CountRose}
use Rattle.outer_world.specs.LeavesOnly.{LeavesOnly}
use Rattle.outer_world.specs.OtherArea.{other_of}
use Rattle.commit_journal.specs.JournalState.{IsAt}
use Rattle.crash_model.specs.Alone.{IsAloneOn}
use Rattle.crash_model.specs.Room.{bytes_written, lays_anew}
use Rattle.crash_model.specs.StoreIn.{IsStoreIn}
use Rattle.history_model.specs.AsksDisk.{asks_disk}
use Rattle.history_model.specs.Commits.{is_commit}
use Rattle.history_model.specs.History.{happens}
use Rattle.history_model.specs.Reply.{answer}
use Rattle.history_model.specs.World.{World}
use Rattle.store_disk.specs.Kept.{HasRoomFor, IsKept}
use Rattle.store_disk.specs.declared.store_disk.StoreDisk.{StoreDisk}

-- whether the disk failed
abbrev pub is_fault : Verdict → Bool
is_fault Took = false
is_fault DiskFault = true
is_fault NoRoom = false

-- the database that is kept: the next one, where the disk took what leads there
abbrev pub kept_by : Verdict → Db → Db → Db
kept_by Took db next = next
kept_by DiskFault db next = db
kept_by NoRoom db next = db

-- how many commits more there are
abbrev pub grown_by : Verdict → Bool → ℕ
grown_by Took counts = if counts then 1 else 0
grown_by DiskFault counts = 0
grown_by NoRoom counts = 0

-- the disk hasn't failed, and an honest one keeps this database
pub record IsUp {D : Type 0} (holds : D → Area → List ℕ) (leaves : D → Area → List ℕ → Type 0) (honest : D → Bool) (store : StoreDisk D) (db : Db) : Type 0 where
  pub sound : store.journal.failed ≡ false
  pub kept : IsTrue (honest store.journal.disk) → IsKept holds leaves store.journal db store.commits

-- The database lies anew in the other area, under the next epoch, with so many bytes; and nothing else is on an honest disk, for
-- what reads give and for every crash.
pub record IsLaidAnew {D : Type 0} (holds : D → Area → List ℕ) (leaves : D → Area → List ℕ → Type 0) (honest : D → Bool) (db : Db) (size : ℕ) (before after : StoreDisk D) : Type 0 where
  pub at : IsAt after.journal (other_of before.journal.area) (before.journal.epoch + 1) (16 + size)
  pub alone : IsTrue (honest before.journal.disk) → IsAloneOn holds leaves after.journal.disk db after.commits (before.journal.epoch + 1) (other_of before.journal.area)

-- The disk of one database, over a call that leads to the next one where the disk isn't asked or takes it: whether the call
-- asks the disk, whether it counts as a commit, whether it lays the store anew, how many bytes it writes, and what the disk said.
pub record Carries {D : Type 0} (holds : D → Area → List ℕ) (leaves : D → Area → List ℕ → Type 0) (moment : D → ℕ)
    (might_have_left : D → ℕ → List ℕ → List ℕ → Type 0) (honest : D → Bool) (faults : D → ℕ)
    (db next : Db) (asks counts lays : Bool) (size : ℕ) (before : StoreDisk D) (verdict : Verdict) (after : StoreDisk D) : Type 0 where
  -- it fails with the call, and else keeps the database that is left
  pub failed : after.journal.failed ≡ is_fault verdict
  pub kept : verdict ≢ DiskFault → IsTrue (honest before.journal.disk) → IsKept holds leaves after.journal (kept_by verdict db next) after.commits
  pub commits : after.commits ≡ before.commits + grown_by verdict counts
  -- a crash at any moment of the call leaves the one database or the next one
  pub left : IsTrue (honest before.journal.disk) → LeavesOnly moment might_have_left
      (λ a b. IsStoreIn a b db before.commits ⊎ IsStoreIn a b next (before.commits + (if counts then 1 else 0))) before.journal.disk after.journal.disk
  pub honesty : honest after.journal.disk ≡ honest before.journal.disk
  pub time : moment before.journal.disk ≤ moment after.journal.disk
  -- a fault is told only where the disk's count of faults rose
  pub rose : verdict ≡ DiskFault → CountRose (faults before.journal.disk) (faults after.journal.disk)
  pub steady : verdict ≢ DiskFault → faults after.journal.disk ≡ faults before.journal.disk
  pub risen : faults before.journal.disk ≤ faults after.journal.disk
  -- want of room is told just where there is none, and then the disk isn't touched; nor is it where it isn't asked
  pub unasked : asks ≡ false → (after ≡ before) × (verdict ≡ Took) × (next ≡ db)
  pub room : verdict ≡ NoRoom → (after ≡ before) × (HasRoomFor before.journal before.commits size → ⊥)
  pub roomy : asks ≡ true → verdict ≢ NoRoom → HasRoomFor before.journal before.commits size
  -- what it writes is behind what was there, unless the store is laid anew
  pub added : asks ≡ true → lays ≡ false → verdict ≡ Took → (after.journal.epoch ≡ before.journal.epoch) × (after.journal.end ≡ before.journal.end + size)
  pub anew : asks ≡ true → lays ≡ true → verdict ≡ Took → IsLaidAnew holds leaves honest next size before after

-- what a call of an entry does to the disk, over a world; where memory kept it from being made, nothing
abbrev pub Stores : {D E : Type 0} → (D → Area → List ℕ) → (D → Area → List ℕ → Type 0) → (D → ℕ) → (D → ℕ → List ℕ → List ℕ → Type 0) → (D → Bool) → (D → ℕ)
    → World → Entry → StoreDisk D → Result (Verdict × Reply) E → StoreDisk D → Type 0
Stores holds leaves moment might_have_left honest faults world entry before (Ok told) after =
    Carries holds leaves moment might_have_left honest faults world.flat (happens world entry).flat (asks_disk world entry) (is_commit world entry (answer world entry))
    (lays_anew entry.request) (bytes_written world entry before.commits) before told.0 after
Stores holds leaves moment might_have_left honest faults world entry before (Err refused) after = after ≡ before
