-- What contracts see of an engine, and what a call makes of it.
use Rattle.std.specs.Prelude.{◌≡◌, ◌≢◌, ◌+◌, ◌<◌, ◌≤◌, ℕ, List, [], ◌∷◌, ◌++◌, Bool, true, false, None, Some, IsTrue, Result, Ok, Err, length}
use Rattle.own_base.specs.declared.number.Area.{Area}
use Rattle.own_base.specs.declared.number.Place.{Place}
use Rattle.own_base.specs.declared.number.SessionNo.{SessionNo}
use Rattle.own_model.specs.declared.bound.Bound.{Bound}
use Rattle.own_model.specs.declared.history.Entry.{Entry}
use Rattle.own_model.specs.declared.history.Verdict.{Verdict}
use Rattle.own_model.specs.declared.history.Verdict.TheVariants.{Took, DiskFault, NoRoom}
use Rattle.own_model.specs.declared.reply.Reply.{Reply}
use Rattle.own_model.specs.declared.request.Request.{Request}
use Rattle.own_model.specs.Db.{Db}
use Rattle.outer_world.specs.FaultCount.{CountRose}
use Rattle.outer_world.specs.LeavesOnly.{LeavesOnly}
use Rattle.history_model.specs.AsksDisk.{asks_disk, under}
use Rattle.history_model.specs.Commits.{commits}
use Rattle.history_model.specs.History.{History, flat, is_disk, reply, standing, world}
use Rattle.history_model.specs.MayBeUnmade.{MayBeUnmadeFrom}
use Rattle.turn_model.specs.Start.{Start}
use Rattle.serve_model.specs.Look.{look_of}
use Rattle.serve_model.specs.Steps.{IsLookedAt}
use Rattle.serve_model.specs.declared.step.Step.{Step}
use Rattle.serve_model.specs.declared.step.Step.TheVariants.{Answered, Look, NoMemory}
use Rattle.crash_model.specs.Alone.{IsAloneOn}
use Rattle.crash_model.specs.MovesDisk.{IsLeftByEither}
use Rattle.crash_model.specs.Room.{JournalEnd, bytes_written, journal_behind, lays_anew}
use Rattle.store_disk.specs.Kept.{HasRoomFor}
use Rattle.store_disk.specs.declared.store_disk.StoreDisk.{StoreDisk}
use Rattle.engine_core.specs.Stored.{IsLaidAnew, is_fault}

-- The database that it was opened with, how many commits had made it, in which area the journal stood and where, and its disk
-- as the opening left it; the entries of the calls made; for how many entries more there is room; and the disk of the store.
pub record Seen (D : Type 0) : Type 0 where
  pub base : Db
  pub start : ℕ
  pub area : Area
  pub journal : JournalEnd
  pub opening : D
  pub history : History
  pub spare : ℕ
  pub store : StoreDisk D

-- what the opening found and left, which no call changes
abbrev pub start_of : {D : Type 0} → (D → ℕ) → (D → Bool) → (D → ℕ) → Seen D → Start
start_of moment honest faults seen = record {
  base = seen.base;
  commits = seen.start;
  area = seen.area;
  epoch = seen.journal.epoch;
  end = seen.journal.end;
  faults = faults seen.opening;
  moment = moment seen.opening;
  honest = honest seen.opening;
}

-- the disk itself
abbrev pub disk_of : {D : Type 0} → Seen D → D
disk_of seen = seen.store.journal.disk

-- the entry of a call, of which the disk said this
abbrev pub entry : SessionNo → ℕ → Request → Verdict → Entry
entry session call request verdict = record { session = session; call = call; request = request; verdict = verdict }

-- A call was made: its entry is the last of the history, and its reply is that of the history at its place. It needed room
-- for one entry at most.
pub record Makes {D : Type 0} (before after : Seen D) (made : Entry) (place : ℕ) (told : Reply) : Type 0 where
  pub history : after.history ≡ before.history ++ made ∷ []
  pub stands : place ≡ length before.history
  pub answered : reply before.base after.history place ≡ Some told
  pub base : after.base ≡ before.base
  pub start : after.start ≡ before.start
  pub area : after.area ≡ before.area
  pub journal : after.journal ≡ before.journal
  pub opening : after.opening ≡ before.opening
  pub spare : before.spare ≤ after.spare + 1

-- Behind a history over a database that so many commits had made, and whose journal stood there, nothing but the flat database is on
-- a disk.
pub record IsAloneBehind {D : Type 0} (holds : D → Area → List ℕ) (leaves : D → Area → List ℕ → Type 0) (disk : D) (at : JournalEnd) (base : Db) (start : ℕ) (history : History) : Type 0 where
  pub area : Area
  pub alone : IsAloneOn holds leaves disk (flat base history) (start + length (commits base history)) (journal_behind at base start history).epoch area

-- What it did to the disk, where this was its entry with the verdict that the disk took it.
pub record Writes {D : Type 0} (holds : D → Area → List ℕ) (leaves : D → Area → List ℕ → Type 0) (moment : D → ℕ) (might_have_left : D → ℕ → List ℕ → List ℕ → Type 0)
    (honest : D → Bool) (faults : D → ℕ) (before after : Seen D) (call : Entry) (verdict : Verdict) (told : Reply) : Type 0 where
  -- it tells a fault of the disk just where the verdict is one, and only where the disk's count of faults rose
  pub fault : is_disk told ≡ is_fault verdict
  pub rose : verdict ≡ DiskFault → CountRose (faults (disk_of before)) (faults (disk_of after))
  pub steady : verdict ≢ DiskFault → faults (disk_of after) ≡ faults (disk_of before)
  -- where its answer isn't the disk's to give the disk is left as it was, and so it is where there is no room for what it
  -- writes; that there is none is told just where it is so
  pub unasked : asks_disk (world before.base before.history) call ≡ false → (after.store ≡ before.store) × (verdict ≡ Took)
  pub room : verdict ≡ NoRoom → (after.store ≡ before.store)
      × (HasRoomFor before.store.journal before.store.commits (bytes_written (world before.base before.history) call before.store.commits) → ⊥)
  pub roomy : asks_disk (world before.base before.history) call ≡ true → verdict ≢ NoRoom
      → HasRoomFor before.store.journal before.store.commits (bytes_written (world before.base before.history) call before.store.commits)
  -- a CHECKPOINT and a FORGET that the disk took have laid the store anew, with the flat database and nothing else
  pub anew : asks_disk (world before.base before.history) call ≡ true → lays_anew call.request ≡ true → verdict ≡ Took
      → IsLaidAnew holds leaves honest (flat after.base after.history) (bytes_written (world before.base before.history) call before.store.commits) before.store after.store
  -- a crash at any moment of the call leaves what the history before it says, or the history with it
  pub left : IsTrue (honest (disk_of before)) → LeavesOnly moment might_have_left (IsLeftByEither before.base before.start before.history after.history) (disk_of before) (disk_of after)
  pub honesty : honest (disk_of after) ≡ honest (disk_of before)
  pub time : moment (disk_of before) ≤ moment (disk_of after)
  pub risen : faults (disk_of before) ≤ faults (disk_of after)

-- A call was a look: its entry, which the disk took without being asked, is the last of the history; what is lent for it shows
-- the flat database of the history before it. It needed room for one entry at most.
pub record LooksAt {D : Type 0} (before after : Seen D) (call : Entry) (place : ℕ) (shown : Db) (bound : Bound) : Type 0 where
  pub looked : IsLookedAt (λ db. db) before.base before.history after.history call place shown bound
  pub base : after.base ≡ before.base
  pub start : after.start ≡ before.start
  pub area : after.area ≡ before.area
  pub journal : after.journal ≡ before.journal
  pub opening : after.opening ≡ before.opening
  pub spare : before.spare ≤ after.spare + 1
  pub store : after.store ≡ before.store

-- A call wasn't made, for want of memory: nothing but the room changed, which didn't shrink. Where there was room for its
-- entry, the call is one that takes memory, as its session stands.
pub record LeavesUnmade {D : Type 0} (before after : Seen D) (unmade : Entry) : Type 0 where
  pub history : after.history ≡ before.history
  pub spare : before.spare ≤ after.spare
  pub store : after.store ≡ before.store
  pub base : after.base ≡ before.base
  pub start : after.start ≡ before.start
  pub area : after.area ≡ before.area
  pub journal : after.journal ≡ before.journal
  pub opening : after.opening ≡ before.opening
  pub spared : 0 < before.spare → MayBeUnmadeFrom (flat before.base before.history).schema (standing before.base before.history unmade.session.0) unmade.request

-- What a call came to that is answered at once, by its entry as one that the disk took: it was made, as the disk said, or memory
-- kept it from being made.
abbrev pub Answers : {D E : Type 0} → (D → Area → List ℕ) → (D → Area → List ℕ → Type 0) → (D → ℕ) → (D → ℕ → List ℕ → List ℕ → Type 0) → (D → Bool) → (D → ℕ) → Seen D → Seen D → Entry → Result (Place × Reply) E → Type 0
Answers holds leaves moment might_have_left honest faults before after call (Ok told) =
    (verdict : Verdict) × Makes before after (under verdict call) told.0.0 told.1 × Writes holds leaves moment might_have_left honest faults before after call verdict told.1
Answers holds leaves moment might_have_left honest faults before after call (Err refused) = LeavesUnmade before after call

-- What a call came to, by its entry as one that the disk took: it was made, as the disk said, and was no look; it was a look; or
-- memory kept it from being made.
abbrev pub Steps : {D : Type 0} → (D → Area → List ℕ) → (D → Area → List ℕ → Type 0) → (D → ℕ) → (D → ℕ → List ℕ → List ℕ → Type 0) → (D → Bool) → (D → ℕ) → Seen D → Seen D → Entry → Step Db → Type 0
Steps holds leaves moment might_have_left honest faults before after call (Answered place told) =
    (verdict : Verdict) × Makes before after (under verdict call) place.0 told × Writes holds leaves moment might_have_left honest faults before after call verdict told
    × (look_of (world before.base before.history) call ≡ None)
Steps holds leaves moment might_have_left honest faults before after call (Look place shown bound) = LooksAt before after call place.0 shown bound
Steps holds leaves moment might_have_left honest faults before after call NoMemory = LeavesUnmade before after call
