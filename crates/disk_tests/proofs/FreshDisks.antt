-- Disks in memory of which no call was made.
use Rattle.std.proofs.Common.{◌≡◌, [], sym, ◌∙◌, ap, subst}
use Rattle.own_base.specs.declared.number.Area.{Area}
use Rattle.own_base.specs.declared.number.Area.TheVariants.{A, B}
use Rattle.outer_world.specs.AfterCall.{after_calls}
use Rattle.outer_world.specs.AreaState.{AreaState, synced_area}
use Rattle.outer_world.specs.IsSynced.{IsSynced}
use Rattle.outer_world.specs.MayLeave.{MayLeave}
use Rattle.outer_world.specs.MemDisk.{DiskState, area_now, start_of}
use Rattle.outer_world.proofs.CrashSteps.{left_synced}
use Rattle.outer_world.proofs.DiskSteps.{holds, leaves}
use Rattle.commit_journal.specs.AreaCalls.{AreSynced}

-- a crash leaves in an area what a read gives
synced-in : (disk : DiskState) (area : Area) → disk.calls ≡ [] → IsSynced holds leaves area disk
synced-in disk area none =
    let same : area_now disk area ≡ synced_area (start_of disk area) = ap (after_calls area (start_of disk area)) none in
    record {
      only = λ bytes left.
          left_synced (synced_area (start_of disk area)) bytes (subst (λ state. MayLeave state bytes) same left)
          ∙ sym (ap (λ (state : AreaState). state.seen) same);
    }

-- and in neither anything else
pub fresh_synced : (disk : DiskState) → disk.calls ≡ [] → AreSynced holds leaves disk
fresh_synced disk none = record { a = synced-in disk A none; b = synced-in disk B none }
