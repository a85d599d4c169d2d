-- What a crash may leave of an area.
use Rattle.std.specs.Prelude.{◌≡◌, ℕ, ◌≤◌, ◌<◌, List, All, length, slice_index}
use Rattle.outer_world.specs.Stretch.{IsOutside}
use Rattle.outer_world.specs.AreaState.{AreaState}

-- The length lies between the least and the greatest since the last sync. Each byte stays that stands within the least
-- length and in no stretch that was written since; all others may be any.
pub record MayLeave (state : AreaState) (bytes : List ℕ) : Type 0 where
  pub no_shorter : state.least ≤ length bytes
  pub no_longer : length bytes ≤ state.greatest
  pub stays : (place : ℕ) → place < state.least → All (IsOutside place) state.written
      → slice_index bytes place ≡ slice_index state.seen place
