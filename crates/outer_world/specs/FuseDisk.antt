-- What contracts see of a disk with a fuse.
use Rattle.std.specs.Prelude.{◌≡◌, ◌⊎◌, ℕ, ◌==◌, if◌then◌else◌}
use Rattle.outer_world.specs.FaultPlan.{IsNextToFail, plan_after_fault}
use Rattle.outer_world.specs.MemDisk.{DiskState}

-- the disk behind the fuse, how many calls the fuse still passes, and the count of faults
pub record FuseState : Type 0 where
  pub disk : DiskState
  pub left : ℕ
  pub faults : ℕ

-- the fuse passes no call any more, or the disk is to fail the next
abbrev pub IsToFail : FuseState → Type 0
IsToFail fuse = (fuse.left ≡ 0) ⊎ IsNextToFail fuse.disk.plan

-- the disk behind the fuse after a call that failed, which it has not seen where the fuse passed none
abbrev pub disk_after_fault : FuseState → DiskState
disk_after_fault fuse = if fuse.left == 0 then fuse.disk else record fuse.disk { plan = plan_after_fault fuse.disk.plan }
