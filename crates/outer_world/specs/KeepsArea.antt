-- How a disk in memory keeps an area.
use Rattle.std.specs.Prelude.{◌≡◌, ℕ, ◌≤◌, List, length, take, ⊤}
use Rattle.own_base.specs.declared.number.Area.{Area}
use Rattle.outer_world.specs.declared.change.Change.{Change}
use Rattle.outer_world.specs.declared.change.Change.TheVariants.{Write, Cut, Sync}
use Rattle.outer_world.specs.declared.change.DiskCall.{DiskCall}
use Rattle.outer_world.specs.Overwritten.{overwritten}
use Rattle.outer_world.specs.AfterCall.{after_calls}
use Rattle.outer_world.specs.MemArea.{AreaContents}

-- its bytes are what the calls made of the start, and those apart what the last sync among them made durable
pub record KeepsArea (contents : AreaContents) (area : Area) (calls : List DiskCall) : Type 0 where
  pub seen : contents.seen ≡ (after_calls area contents.start calls).seen
  pub synced : contents.synced ≡ (after_calls area contents.start calls).synced

-- the change begins within these bytes
abbrev pub BeginsWithin : Change → List ℕ → Type 0
BeginsWithin (Write place bytes) seen = place ≤ length seen
BeginsWithin (Cut len) seen = len ≤ length seen
BeginsWithin Sync seen = ⊤

-- the contents after a change
abbrev pub changed_contents : AreaContents → Change → AreaContents
changed_contents contents (Write place bytes) = record contents { seen = overwritten contents.seen place bytes }
changed_contents contents (Cut len) = record contents { seen = take len contents.seen }
changed_contents contents Sync = record contents { synced = contents.seen }
