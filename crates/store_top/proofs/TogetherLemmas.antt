-- What sessions leave that an engine served side by side.
use Rattle.std.proofs.Common.{◌≡◌, ◌∙◌, ℕ, List, [], Bool, true, false, IsTrue, ap, refl, inl, inr}
use Rattle.std.specs.Prelude.{◌⊎◌, Option, Some, Result, Ok, Err, IfOk}
use Rattle.own_base.specs.declared.number.Area.{Area}
use Rattle.own_base.specs.declared.number.Area.TheVariants.{A, B}
use Rattle.own_model.specs.declared.script.SessionCalls.{SessionCalls}
use Rattle.own_model.specs.Db.{Db}
use Rattle.history_model.specs.Fails.{TellsFailure}
use Rattle.history_model.specs.History.{History}
use Rattle.turn_model.specs.Start.{Start}
use Rattle.crash_model.specs.Alone.{is_laid_behind}
use Rattle.crash_model.specs.LeftBy.{IsLeftBy}
use Rattle.crash_model.specs.MovesDisk.{MovesDisk}
use Rattle.crash_model.specs.Room.{IsNoRoomExact, JournalEnd}
use Rattle.session_run.specs.declared.printing.RunFault.{RunFault}
use Rattle.session_run.specs.declared.printing.RunFault.TheVariants as running
use Rattle.session_run.specs.Written.{IsUncalled, MakesTogether, WritesText}
use Rattle.engine_core.specs.Seen.{IsAloneBehind, Seen, disk_of, start_of}
use Rattle.store_top.specs.LeavesDisk.{LeavesDisk}
use Rattle.store_top.specs.RanTogether.{ServesTogether}
use Rattle.store_top.specs.Status.{fault_of}

module _ {D : Type 0} (holds : D → Area → List ℕ) (leaves : D → Area → List ℕ → Type 0) (moment : D → ℕ) (might : D → ℕ → List ℕ → List ℕ → Type 0) (honest : D → Bool) (faults : D → ℕ)
    (engine after : Seen D) (same : start_of moment honest faults after ≡ start_of moment honest faults engine) where
  -- an engine of the same start
  pub base-same : after.base ≡ engine.base
  base-same = ap (λ (s : Start). s.base) same

  commits_same : after.start ≡ engine.start
  commits_same = ap (λ (s : Start). s.commits) same

  journal_same : after.journal ≡ engine.journal
  journal_same = λ i. record { epoch = (same i).epoch; end = (same i).end }

  -- tells what became of the disk since the opening
  pub leaves-disk : (history : History) (new : D) → engine.opening ≡ disk_of engine → MovesDisk moment might honest faults after.base after.start history after.opening new
      → (IsTrue (honest new) → (a b : List ℕ) → leaves new A a → leaves new B b → IsLeftBy after.base after.start history a b)
      → IsNoRoomExact after.journal after.base after.start history
      → (is_laid_behind after.base history ≡ true → IsTrue (honest new) → IsAloneBehind holds leaves new after.journal after.base after.start history)
      → LeavesDisk holds leaves moment might honest faults engine history new
  leaves-disk history new opened moves left exact alone = record {
    mid = after.opening;
    honesty = ap (λ (s : Start). s.honest) same ∙ ap honest opened;
    time = ap (λ (s : Start). s.moment) same ∙ ap moment opened;
    steady = ap (λ (s : Start). s.faults) same ∙ ap faults opened;
    moves = rw (← base-same, ← commits_same) moves;
    left = rw (← base-same, ← commits_same) left;
    exact = rw (← base-same, ← commits_same, ← journal_same) exact;
    alone = rw (← base-same, ← commits_same, ← journal_same) alone;
  }

-- how sessions were served, by what came of telling them
module _ {W : Type 0} (sink_old sink_new : W) (base : Db) (sessions : List SessionCalls) (history : History) (old new : Option (List ℕ)) (rose : Type 0) where
  abbrev Silent : Type 0
  Silent = (sink_new ≡ sink_old) × (history ≡ [])

  abbrev Tells : Result Bool RunFault → Type 0
  Tells served = IsUncalled sink_old sink_new history served ⊎ MakesTogether base sessions history (λ text. WritesText old new text served)

  -- all calls were made, unless memory was refused before the first
  made_of : (served : Result Bool RunFault) → Tells served → (served ≡ Err running.Memory → ⊥) → MakesTogether base sessions history (λ text. WritesText old new text served)
  made_of served (inl uncalled) other = absurd (other uncalled.refused)
  made_of served (inr made) other = made

  pub together-served : (served : Result Bool RunFault) → Tells served → IfOk served (λ failed. TellsFailure failed base history) → (served ≡ Err running.Write → rose)
      → ServesTogether sessions (Some base) history old new rose Silent (fault_of served)
  together-served (Ok true) tells failed rises = (made_of (Ok true) tells (λ is. cc), failed)
  together-served (Ok false) tells failed rises = (made_of (Ok false) tells (λ is. cc), failed)
  together-served (Err running.Write) tells failed rises = (rises refl, made_of (Err running.Write) tells (λ is. cc))
  together-served (Err running.Memory) (inl uncalled) failed rises = inl (uncalled.unwritten, uncalled.uncalled)
  together-served (Err running.Memory) (inr made) failed rises = inr made
