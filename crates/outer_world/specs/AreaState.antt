-- An area between two syncs.
use Rattle.std.specs.Prelude.{ℕ, List, [], length}
use Rattle.outer_world.specs.Stretch.{Stretch}

-- what a read gives, what the last sync made durable, the stretches written since that sync, and the least and the
-- greatest length since then
pub record AreaState : Type 0 where
  pub seen : List ℕ
  pub synced : List ℕ
  pub written : List Stretch
  pub least : ℕ
  pub greatest : ℕ

-- these bytes, and nothing unsynced
abbrev pub synced_area : List ℕ → AreaState
synced_area bytes = record { seen = bytes; synced = bytes; written = []; least = length bytes; greatest = length bytes }
