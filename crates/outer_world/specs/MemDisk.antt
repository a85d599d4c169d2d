-- What contracts see of a disk in memory.
use Rattle.std.specs.Prelude.{ℕ, ◌≤◌, List, [], length, take}
use Rattle.own_base.specs.declared.number.Area.{Area}
use Rattle.own_base.specs.declared.number.Area.TheVariants.{A, B}
use Rattle.outer_world.specs.declared.change.DiskCall.{DiskCall}
use Rattle.outer_world.specs.FaultPlan.{Plan, fresh_plan}
use Rattle.outer_world.specs.AreaState.{AreaState}
use Rattle.outer_world.specs.MayLeave.{MayLeave}
use Rattle.outer_world.specs.AfterCall.{after_calls}

-- the bytes of each area at the start, the calls that changed one or made it durable, and the plan of its faults
pub record DiskState : Type 0 where
  pub start_a : List ℕ
  pub start_b : List ℕ
  pub calls : List DiskCall
  pub plan : Plan

-- the bytes of an area at the start
abbrev pub start_of : DiskState → Area → List ℕ
start_of disk A = disk.start_a
start_of disk B = disk.start_b

-- an area as it was after so many of the calls
abbrev pub area_after : DiskState → ℕ → Area → AreaState
area_after disk count area = after_calls area (start_of disk area) (take count disk.calls)

-- an area as it is
abbrev pub area_now : DiskState → Area → AreaState
area_now disk area = after_calls area (start_of disk area) disk.calls

-- a crash after some call, and not before that many, may have left these bytes in the two areas
pub record MightHaveLeft (disk : DiskState) (since : ℕ) (a b : List ℕ) : Type 0 where
  pub count : ℕ
  pub not_before : since ≤ count
  pub made : count ≤ length disk.calls
  pub in_a : MayLeave (area_after disk count A) a
  pub in_b : MayLeave (area_after disk count B) b

-- a disk with these bytes, of which no call was made: nothing is unsynced, there is no fault, and no call is to fail
abbrev pub fresh_disk : List ℕ → List ℕ → DiskState
fresh_disk a b = record { start_a = a; start_b = b; calls = []; plan = fresh_plan [] }
