-- What the calls of a disk with a fuse do is what they do to the disk behind it.
use Rattle.std.proofs.Common.{◌≡◌, ◌==◌, if◌then◌else◌, true, false, ℕ, List, refl, subst, sym}
use Rattle.own_base.specs.declared.number.Area.{Area}
use Rattle.outer_world.specs.FaultPlan.{plan_after_fault}
use Rattle.outer_world.specs.Follows.{Follows}
use Rattle.outer_world.specs.Stays.{Stays, StaysBeside}
use Rattle.outer_world.specs.IsSynced.{IsSynced}
use Rattle.outer_world.specs.Elapses.{Elapses}
use Rattle.outer_world.specs.MemDisk.{DiskState, MightHaveLeft}
use Rattle.outer_world.specs.FuseDisk.{FuseState, disk_after_fault}
use Rattle.outer_world.proofs.DiskSteps.{holds, leaves, moment, IsUnchanged, unchanged_is}

-- a call that failed changes nothing of the disk
unchanged_after_fault : (fuse : FuseState) → IsUnchanged fuse.disk (disk_after_fault fuse)
unchanged_after_fault fuse =
    let failed : DiskState = record fuse.disk { plan = plan_after_fault fuse.disk.plan } in
    elim (fuse.left == 0) as (λ spent. IsUnchanged fuse.disk (if spent then fuse.disk else failed)) [
      | true ↦ unchanged_is fuse.disk fuse.disk fuse.disk.plan refl
      | false ↦ unchanged_is fuse.disk failed (plan_after_fault fuse.disk.plan) refl
    ]

pub unchanged_by_fault : (old new : FuseState) → new.disk ≡ disk_after_fault old → IsUnchanged old.disk new.disk
unchanged_by_fault old new is = subst (λ disk. IsUnchanged old.disk disk) (sym is) (unchanged_after_fault old)

abbrev fuse_holds : FuseState → Area → List ℕ
fuse_holds fuse area = holds fuse.disk area

abbrev fuse_leaves : FuseState → Area → List ℕ → Type 0
fuse_leaves fuse area bytes = leaves fuse.disk area bytes

abbrev fuse_moment : FuseState → ℕ
fuse_moment fuse = moment fuse.disk

abbrev fuse_might : FuseState → ℕ → List ℕ → List ℕ → Type 0
fuse_might fuse since a b = MightHaveLeft fuse.disk since a b

pub fuse_stays : (area : Area) (old new : FuseState) → Stays holds leaves area old.disk new.disk → Stays fuse_holds fuse_leaves area old new
fuse_stays area old new stays = record { same = stays.same; no_more = stays.no_more }

pub fuse_beside : (area : Area) (old new : FuseState) → StaysBeside holds leaves area old.disk new.disk → StaysBeside fuse_holds fuse_leaves area old new
fuse_beside area old new beside = record { each = λ other apart. fuse_stays other old new (beside.each other apart) }

pub fuse_follows : (area : Area) (step : List ℕ → List ℕ → Type 0) (old new : FuseState) → Follows leaves area step old.disk new.disk → Follows fuse_leaves area step old new
fuse_follows area step old new follows = record { each = follows.each }

pub fuse_synced : (area : Area) (fuse : FuseState) → IsSynced holds leaves area fuse.disk → IsSynced fuse_holds fuse_leaves area fuse
fuse_synced area fuse synced = record { only = synced.only }

pub fuse_elapses : (old new : FuseState) → Elapses leaves moment MightHaveLeft old.disk new.disk → Elapses fuse_leaves fuse_moment fuse_might old new
fuse_elapses old new elapses = record { later = elapses.later; nothing_else = elapses.nothing_else; none_forgotten = elapses.none_forgotten }
