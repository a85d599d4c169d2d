-- What a disk in memory tells of crashes is as the laws of a disk ask.
use Rattle.std.specs.Prelude.{◌≡◌, ℕ, ◌≤◌, List, [], ◌∷◌, length, fold, refl}
use Rattle.std.proofs.Common.{sym, ap, subst, arith}
use Rattle.std.proofs.lemmas.List.{take_all}
use Rattle.own_base.specs.declared.number.Area.{Area}
use Rattle.own_base.specs.declared.number.Area.TheVariants.{A, B}
use Rattle.outer_world.specs.declared.change.Change.{Change}
use Rattle.outer_world.specs.declared.change.Change.TheVariants.{Write, Cut, Sync}
use Rattle.outer_world.specs.declared.change.DiskCall.{DiskCall}
use Rattle.outer_world.specs.AreaState.{AreaState, synced_area}
use Rattle.outer_world.specs.MayLeave.{MayLeave}
use Rattle.outer_world.specs.AfterCall.{changed_area, after_change, after_call, after_calls}
use Rattle.outer_world.specs.MemDisk.{DiskState, start_of, area_after, area_now, MightHaveLeft}

-- what a read gives lies between the least and the greatest length
pub record IsBetween (state : AreaState) : Type 0 where
  pub least : state.least ≤ length state.seen
  pub greatest : length state.seen ≤ state.greatest

between_changed : (state : AreaState) (change : Change) → IsBetween (changed_area state change)
between_changed state (Write place bytes) = record { least = omega arith; greatest = omega arith }
between_changed state (Cut len) = record { least = omega arith; greatest = omega arith }
between_changed state Sync = record { least = omega arith; greatest = omega arith }

between_change : (area : Area) (state : AreaState) (of : Area) (change : Change) → IsBetween state → IsBetween (after_change area state of change)
between_change A state A change between = between_changed state change
between_change A state B change between = between
between_change B state A change between = between
between_change B state B change between = between_changed state change

between_calls : (area : Area) (state : AreaState) (calls : List DiskCall) → IsBetween state → IsBetween (fold (after_call area) state calls)
between_calls area state [] between = between
between_calls area state (call ∷ calls) between =
    between_calls area (after_call area state call) calls (between_change area state call.area call.change between)

pub between_now : (disk : DiskState) (area : Area) → IsBetween (area_now disk area)
between_now disk area = between_calls area (synced_area (start_of disk area)) disk.calls (record { least = omega arith; greatest = omega arith })

pub mem_reads_may_stay : (disk : DiskState) (area : Area) → MayLeave (area_now disk area) (area_now disk area).seen
mem_reads_may_stay disk area = record {
  no_shorter = (between_now disk area).least;
  no_longer = (between_now disk area).greatest;
  stays = λ place within outside. refl;
}

-- after all of the calls an area is as it is
all_calls : (disk : DiskState) (count : ℕ) (area : Area) → length disk.calls ≤ count → area_after disk count area ≡ area_now disk area
all_calls disk count area all = ap (λ calls. after_calls area (start_of disk area) calls) (take_all count disk.calls all)

pub mem_now_counts : (disk : DiskState) (since : ℕ) (a b : List ℕ) → since ≤ length disk.calls
    → MayLeave (area_now disk A) a → MayLeave (area_now disk B) b → MightHaveLeft disk since a b
mem_now_counts disk since a b before in_a in_b = record {
  count = length disk.calls;
  not_before = before;
  made = omega arith;
  in_a = subst (λ state. MayLeave state a) (sym (all_calls disk (length disk.calls) A (omega arith))) in_a;
  in_b = subst (λ state. MayLeave state b) (sym (all_calls disk (length disk.calls) B (omega arith))) in_b;
}

pub mem_only_now : (disk : DiskState) (a b : List ℕ) → MightHaveLeft disk (length disk.calls) a b
    → MayLeave (area_now disk A) a × MayLeave (area_now disk B) b
mem_only_now disk a b might = (
  subst (λ state. MayLeave state a) (all_calls disk might.count A might.not_before) might.in_a,
  subst (λ state. MayLeave state b) (all_calls disk might.count B might.not_before) might.in_b,
)
