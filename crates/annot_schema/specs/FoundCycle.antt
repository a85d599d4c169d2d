-- A cycle, as the definitions have it.
use Rattle.std.specs.Prelude.{ℕ, ◌<◌}
use Rattle.owner_model.specs.Cycle.{Cycle}
use Rattle.annot_schema.specs.declared.walks.FoundCycle.{FoundCycle}

abbrev pub cycle_seen : FoundCycle → Cycle
cycle_seen walk = record { table = walk.table.0; through = walk.through.0 }

-- both its tables are of so many
pub record IsWithin (tables : ℕ) (walk : FoundCycle) : Type 0 where
  pub table : walk.table.0 < tables
  pub through : walk.through.0 < tables
