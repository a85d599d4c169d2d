-- What the calls of a disk make of an area.
use Rattle.std.specs.Prelude.{ℕ, ◌+◌, List, ◌∷◌, length, take, fold, min, max}
use Rattle.own_base.specs.declared.number.Area.{Area}
use Rattle.own_base.specs.declared.number.Area.TheVariants.{A, B}
use Rattle.outer_world.specs.declared.change.Change.{Change}
use Rattle.outer_world.specs.declared.change.Change.TheVariants.{Write, Cut, Sync}
use Rattle.outer_world.specs.declared.change.DiskCall.{DiskCall}
use Rattle.outer_world.specs.Overwritten.{overwritten}
use Rattle.outer_world.specs.AreaState.{AreaState, synced_area}

-- it reads so from now on, and has been as long
abbrev pub with_bytes : AreaState → List ℕ → AreaState
with_bytes state bytes = record state { seen = bytes; least = min state.least (length bytes); greatest = max state.greatest (length bytes) }

-- after a change of the area
abbrev pub changed_area : AreaState → Change → AreaState
changed_area state (Write place bytes) =
    record (with_bytes state (overwritten state.seen place bytes)) { written = record { start = place; end = place + length bytes } ∷ state.written }
changed_area state (Cut len) = with_bytes state (take len state.seen)
changed_area state Sync = synced_area state.seen

-- after a change of one of the areas, of which the other takes no part
abbrev pub after_change : Area → AreaState → Area → Change → AreaState
after_change A state A change = changed_area state change
after_change A state B change = state
after_change B state A change = state
after_change B state B change = changed_area state change

-- after a call
abbrev pub after_call : Area → AreaState → DiskCall → AreaState
after_call area state call = after_change area state call.area call.change

-- after these calls of a disk with these bytes in the area
abbrev pub after_calls : Area → List ℕ → List DiskCall → AreaState
after_calls area bytes calls = fold (after_call area) (synced_area bytes) calls
