-- What contracts see of a source in memory.
use Rattle.std.specs.Prelude.{ℕ, List, Option}
use Rattle.outer_world.specs.FaultPlan.{Plan}

-- the bytes that no call has given yet, the most that a call gives, where there is such a bound, and the plan of its
-- faults
pub record SourceState : Type 0 where
  pub remaining : List ℕ
  pub most : Option ℕ
  pub plan : Plan
