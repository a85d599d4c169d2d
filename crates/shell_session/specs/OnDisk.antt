-- What a shell did to its disk.
use Rattle.std.specs.Prelude.{◌≡◌, ◌≢◌, ◌≤◌, ◌⊎◌, ℕ, List, [], ◌++◌, IsTrue, Option, None, Some}
use Rattle.own_base.specs.declared.number.Area.{Area}
use Rattle.own_base.specs.declared.number.Area.TheVariants.{A, B}
use Rattle.outer_world.specs.FaultCount.{CountRose}
use Rattle.outer_world.specs.LeavesOnly.{LeavesOnly}
use Rattle.outer_world.specs.Stays.{Stays}
use Rattle.own_model.specs.Db.{Db}
use Rattle.disk_model.specs.Judged.{IsJudged}
use Rattle.disk_model.specs.JudgedArea as found
use Rattle.crash_model.specs.StoreIn.{IsStoreIn}
use Rattle.crash_recover.specs.Opening.{IsLeft}
use Rattle.shell_session.specs.DiskView.{DiskView}
use Rattle.shell_session.specs.Life.{EndsLaid, Event, Happen, IsLeftOnTheWay}
use Rattle.shell_session.specs.Opening.{HasFailed, IsAtRest, IsLeftOver, Opening}
use Rattle.shell_session.specs.declared.ending.ShellFault.{ShellFault}
use Rattle.shell_session.specs.declared.ending.ShellFault.TheVariants.{Disk, Damaged, Refused}

-- What the disk holds is damaged there, and both areas stay as they were.
pub record IsFoundDamaged {D : Type 0} (holds : D → Area → List ℕ) (leaves : D → Area → List ℕ → Type 0) (old new : D) (area : Area) (offset : ℕ) : Type 0 where
  pub judged : IsJudged (holds old A) (holds old B) (found.Damaged area offset)
  pub kept_a : Stays holds leaves A old new
  pub kept_b : Stays holds leaves B old new

-- The store of a disk was opened, and no call was made yet. What an honest disk held is the store of the database that was opened;
-- a crash leaves it too, and one on the way what one might have left before, or the same database.
pub record IsOpened {D : Type 0} (holds : D → Area → List ℕ) (view : DiskView D) (old : D) (first : Opening D) : Type 0 where
  pub fresh : first.history ≡ []
  pub honesty : view.honest first.disk ≡ view.honest old
  pub time : view.moment old ≤ view.moment first.disk
  pub steady : view.faults first.disk ≡ view.faults old
  pub held : IsTrue (view.honest old) → IsStoreIn (holds old A) (holds old B) first.base first.start
  pub now : IsTrue (view.honest old) → (a b : List ℕ) → view.leaves first.disk A a → view.leaves first.disk B b → IsLeftOver first a b
  pub moments : IsTrue (view.honest old) → LeavesOnly view.moment view.might_have_left (IsLeft holds view.leaves old) old first.disk

-- The store of a disk was not opened, for a fault of the disk, where its count of faults rose; since what an honest disk holds is
-- damaged; or for want of memory.
pub record IsNotOpened {D : Type 0} (holds : D → Area → List ℕ) (view : DiskView D) (old new : D) (why : ShellFault) : Type 0 where
  pub honesty : view.honest new ≡ view.honest old
  pub time : view.moment old ≤ view.moment new
  pub risen : view.faults old ≤ view.faults new
  pub rose : why ≡ Disk → CountRose (view.faults old) (view.faults new)
  pub steady : why ≢ Disk → view.faults new ≡ view.faults old
  pub damaged : (area : Area) (offset : ℕ) → why ≡ Damaged area offset → IsTrue (view.honest old) → IsFoundDamaged holds view.leaves old new area offset
  pub moments : IsTrue (view.honest old) → LeavesOnly view.moment view.might_have_left (IsLeft holds view.leaves old) old new

-- The store was to be opened anew, behind a CHECKPOINT, as no session was in a transaction, and was not: for a fault of the disk,
-- where its count of faults rose, or for want of memory. An honest disk isn't damaged there, and a crash leaves what the history says.
pub record IsNotRenewed {D : Type 0} (view : DiskView D) (last : Opening D) (new : D) (why : ShellFault) : Type 0 where
  pub laid : EndsLaid last.base last.history
  pub at_rest : IsAtRest last
  pub whole : HasFailed last → ⊥
  pub honesty : view.honest new ≡ view.honest last.disk
  pub time : view.moment last.disk ≤ view.moment new
  pub risen : view.faults last.disk ≤ view.faults new
  pub rose : why ≡ Disk → CountRose (view.faults last.disk) (view.faults new)
  pub steady : why ≢ Disk → view.faults new ≡ view.faults last.disk
  pub undamaged : (area : Area) (offset : ℕ) → why ≡ Damaged area offset → IsTrue (view.honest last.disk) → ⊥
  pub moments : IsTrue (view.honest last.disk) → LeavesOnly view.moment view.might_have_left (IsLeftOver last) last.disk new

-- a life that ended without a fault, or with a refusal
abbrev pub IsCalm : Option ShellFault → Type 0
IsCalm None = Unit {0}
IsCalm (Some Refused) = Unit {0}
IsCalm (Some why) = ⊥

-- A life ended over an opening: its fault is the disk's only where a call was answered so; one that ended without a fault, or with a
-- refusal, had no such call.
pub record IsClosedOver {D : Type 0} (last : Opening D) (fault : Option ShellFault) (new : D) : Type 0 where
  pub disk : new ≡ last.disk
  pub failed : fault ≡ Some Disk → HasFailed last
  pub calm : IsCalm fault → HasFailed last → ⊥
  pub undamaged : (area : Area) (offset : ℕ) → fault ≢ Some (Damaged area offset)

-- or where the store was to be opened anew
pub record IsCutOff {D : Type 0} (view : DiskView D) (last : Opening D) (fault : Option ShellFault) (new : D) : Type 0 where
  pub why : ShellFault
  pub fault_is : fault ≡ Some why
  pub not_renewed : IsNotRenewed view last new why

abbrev pub IsEnded : {D : Type 0} → DiskView D → Opening D → Option ShellFault → D → Type 0
IsEnded view last fault new = IsClosedOver last fault new ⊎ IsCutOff view last fault new

-- What a life did to the disk, from the opening of its store on.
pub record OnDisk {D : Type 0} (holds : D → Area → List ℕ) (view : DiskView D) (old new : D) (first : Opening D) (events : List Event) (last : Opening D) (fault : Option ShellFault) : Type 0 where
  -- A fault of the disk is told, and a call answered so, only where its count of faults rose; else that stands still.
  pub rose : fault ≡ Some Disk → CountRose (view.faults old) (view.faults new)
  pub failed : HasFailed last → CountRose (view.faults old) (view.faults new)
  pub steady : fault ≢ Some Disk → (HasFailed last → ⊥) → view.faults new ≡ view.faults old
  pub calm : IsCalm fault → view.faults new ≡ view.faults old
  pub risen : view.faults old ≤ view.faults new
  -- Once its store was opened, an honest disk isn't found damaged.
  pub undamaged : (area : Area) (offset : ℕ) → fault ≡ Some (Damaged area offset) → IsTrue (view.honest old) → ⊥
  -- What it tells of its bytes is as much so as before, and its moment doesn't fall.
  pub honesty : view.honest new ≡ view.honest old
  pub time : view.moment old ≤ view.moment new
  -- Of an honest disk, a crash at the end leaves what all of the last history says;
  pub left : IsTrue (view.honest old) → (a b : List ℕ) → view.leaves new A a → view.leaves new B b → IsLeftOver last a b
  -- one since some of the events had happened, what the history said then or later, so each commit of a call that was answered then;
  pub since : IsTrue (view.honest old) → (done rest : List Event) (here : Opening D) → events ≡ done ++ rest → Happen view first done here → Happen view here rest last
      → (a b : List ℕ) → view.might_have_left new (view.moment here.disk) a b → IsLeftOnTheWay view here rest last a b
  -- and one at any moment what one might have left before, or the database of before, or what the history said at some time.
  pub moments : IsTrue (view.honest old)
      → LeavesOnly view.moment view.might_have_left (λ a b. IsLeft holds view.leaves old a b ⊎ IsLeftOnTheWay view first events last a b) old new
