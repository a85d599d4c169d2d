-- What an engine keeps, and what a call that was made leaves of it.
use Rattle.std.specs.Prelude.{◌≡◌, ◌≢◌, ℕ, ◌+◌, [], ◌∷◌, ◌++◌, length, List, Bool, true, Option, None, IsTrue, is_some, option_map}
use Rattle.own_base.specs.declared.number.Area.{Area}
use Rattle.own_base.specs.declared.number.Area.TheVariants.{A, B}
use Rattle.own_base.specs.declared.number.Place.{Place}
use Rattle.own_model.specs.declared.history.Entry.{Entry}
use Rattle.own_model.specs.declared.history.Verdict.{Verdict}
use Rattle.own_model.specs.declared.history.Verdict.TheVariants.{Took}
use Rattle.own_model.specs.declared.reply.Reply.{Reply}
use Rattle.own_model.specs.Db.{Db}
use Rattle.state_model.specs.Sound.{Sound}
use Rattle.history_model.specs.AsksDisk.{asks_disk, under}
use Rattle.history_model.specs.Commits.{commits, is_commit}
use Rattle.history_model.specs.History.{History, flat, happens, is_disk, world}
use Rattle.history_model.specs.Reply.{answer}
use Rattle.history_model.specs.Serial.{IsHistory}
use Rattle.crash_model.specs.Alone.{IsAloneOn, is_laid_behind}
use Rattle.crash_model.specs.LeftBy.{IsLeftBy}
use Rattle.crash_model.specs.MovesDisk.{MovesDisk}
use Rattle.crash_model.specs.Room.{IsNoRoomExact, JournalEnd, bytes_written, journal_behind, lays_anew}
use Rattle.commit_journal.specs.declared.journal.Journal.{Journal}
use Rattle.store_disk.specs.Kept.{IsKept}
use Rattle.store_disk.specs.declared.store_disk.StoreDisk.{StoreDisk}
use Rattle.engine_core.specs.declared.state.State.{State}
use Rattle.engine_core.specs.RepresentsWorld.{RepresentsWorld}
use Rattle.engine_core.specs.Stored.{Carries, is_fault}

-- a journal stands there
abbrev pub IsEndOf : {D : Type 0} → Journal D → JournalEnd → Type 0
IsEndOf journal at = (journal.epoch ≡ at.epoch) × (journal.end ≡ at.end)

-- Behind a history over the database that was opened, which so many commits had made, and whose journal stood there: it is known
-- whether the disk failed; while it hasn't, the state represents the world, an honest disk keeps the flat database, and the
-- journal stands where the history says; a crash leaves what the history says; there was no room just where it says so; where
-- the history laid the store anew, nothing but the flat database is on an honest disk; and from the disk as the opening left it
-- on, the calls did what the history says.
pub record Stands {D : Type 0} (holds : D → Area → List ℕ) (leaves : D → Area → List ℕ → Type 0) (moment : D → ℕ)
    (might_have_left : D → ℕ → List ℕ → List ℕ → Type 0) (honest : D → Bool) (faults : D → ℕ)
    (opening : D) (start : ℕ) (at : JournalEnd) (state : State) (store : StoreDisk D) (down : Option Place) (history : History) : Type 0 where
  pub entries : IsHistory history
  pub begun : Sound state.opened
  pub represents : down ≡ None → RepresentsWorld state (world state.opened history)
  pub down_is : (world state.opened history).down ≡ option_map (λ (place : Place). place.0) down
  pub failed : store.journal.failed ≡ is_some down
  pub kept : down ≡ None → IsTrue (honest store.journal.disk) → IsKept holds leaves store.journal (flat state.opened history) store.commits
  pub count : store.commits ≡ start + length (commits state.opened history)
  pub left : IsTrue (honest store.journal.disk) → (a b : List ℕ) → leaves store.journal.disk A a → leaves store.journal.disk B b
      → IsLeftBy state.opened start history a b
  pub ends : down ≡ None → IsEndOf store.journal (journal_behind at state.opened start history)
  pub exact : IsNoRoomExact at state.opened start history
  pub alone : is_laid_behind state.opened history ≡ true → (down ≡ None)
      × (IsTrue (honest store.journal.disk) → IsAloneOn holds leaves store.journal.disk (flat state.opened history) store.commits store.journal.epoch store.journal.area)
  pub moves : MovesDisk moment might_have_left honest faults state.opened start history opening store.journal.disk

-- A call was made over this database, of which the disk said something: its entry is the last, it was answered as in the world
-- of the history before it, and the state represents the world with it, unless the disk has failed. What it did to the disk is
-- so while the disk hadn't failed; once it had, nothing.
pub record IsMade {D : Type 0} (holds : D → Area → List ℕ) (leaves : D → Area → List ℕ → Type 0) (moment : D → ℕ)
    (might_have_left : D → ℕ → List ℕ → List ℕ → Type 0) (honest : D → Bool) (faults : D → ℕ)
    (base : Db) (before after : History) (state : State) (store_before store_after : StoreDisk D) (down_before down_after : Option Place)
    (call : Entry) (place : ℕ) (told : Reply) : Type 0 where
  pub verdict : Verdict
  pub history : after ≡ before ++ under verdict call ∷ []
  pub at : place ≡ length before
  pub answered : answer (world base before) (under verdict call) ≡ told
  pub represents : down_after ≡ None → RepresentsWorld state (world base after)
  pub fault : is_disk told ≡ is_fault verdict
  pub down_is : (world base after).down ≡ option_map (λ (place : Place). place.0) down_after
  pub carries : down_before ≡ None → Carries holds leaves moment might_have_left honest faults (world base before).flat (happens (world base before) call).flat
      (asks_disk (world base before) call) (is_commit (world base before) call (answer (world base before) call))
      (lays_anew call.request) (bytes_written (world base before) call store_before.commits) store_before verdict store_after
  pub still : down_before ≢ None → (store_after ≡ store_before) × (verdict ≡ Took) × (down_after ≡ down_before)
