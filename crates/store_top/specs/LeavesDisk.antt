-- What became of the disk of an engine.
use Rattle.std.specs.Prelude.{◌≡◌, ℕ, List, Bool, true, IsTrue}
use Rattle.own_base.specs.declared.number.Area.{Area}
use Rattle.own_base.specs.declared.number.Area.TheVariants.{A, B}
use Rattle.history_model.specs.History.{History}
use Rattle.crash_model.specs.Alone.{is_laid_behind}
use Rattle.crash_model.specs.LeftBy.{IsLeftBy}
use Rattle.crash_model.specs.MovesDisk.{MovesDisk}
use Rattle.crash_model.specs.Room.{IsNoRoomExact}
use Rattle.engine_core.specs.Seen.{IsAloneBehind, Seen, disk_of}

-- What became of the disk of an engine that had made no call, by the history of those that were made. What moved it is told from a disk
-- of the same moment, honesty and count of faults on.
pub record LeavesDisk {D : Type 0} (holds : D → Area → List ℕ) (leaves : D → Area → List ℕ → Type 0) (moment : D → ℕ) (might_have_left : D → ℕ → List ℕ → List ℕ → Type 0)
    (honest : D → Bool) (faults : D → ℕ) (engine : Seen D) (history : History) (new : D) : Type 0 where
  pub mid : D
  pub honesty : honest mid ≡ honest (disk_of engine)
  pub time : moment mid ≡ moment (disk_of engine)
  pub steady : faults mid ≡ faults (disk_of engine)
  pub moves : MovesDisk moment might_have_left honest faults engine.base engine.start history mid new
  pub left : IsTrue (honest new) → (a b : List ℕ) → leaves new A a → leaves new B b → IsLeftBy engine.base engine.start history a b
  pub exact : IsNoRoomExact engine.journal engine.base engine.start history
  pub alone : is_laid_behind engine.base history ≡ true → IsTrue (honest new) → IsAloneBehind holds leaves new engine.journal engine.base engine.start history
