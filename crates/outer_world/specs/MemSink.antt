-- What contracts see of a sink in memory.
use Rattle.std.specs.Prelude.{ℕ, List, Option}
use Rattle.outer_world.specs.FaultPlan.{Plan}

-- the bytes written so far, the most that a call takes, where there is such a bound, and the plan of its faults
pub record SinkState : Type 0 where
  pub written : List ℕ
  pub most : Option ℕ
  pub plan : Plan
