-- Which calls of an object in memory fail, and how many were made.
use Rattle.std.specs.Prelude.{ℕ, List, Contains}
use Rattle.outer_world.specs.FaultCount.{one_higher}

-- the numbers of the calls that are to fail, the number of the next call, and the count of faults
pub record Plan : Type 0 where
  pub fails : List ℕ
  pub calls : ℕ
  pub faults : ℕ

-- no call was made yet
abbrev pub fresh_plan : List ℕ → Plan
fresh_plan fails = record { fails = fails; calls = 0; faults = 0 }

-- the next call is one of those that are to fail
abbrev pub IsNextToFail : Plan → Type 0
IsNextToFail plan = Contains plan.fails plan.calls

-- the plan after a call without a fault
abbrev pub plan_after_success : Plan → Plan
plan_after_success plan = record plan { calls = one_higher plan.calls }

-- the plan after a call that failed
abbrev pub plan_after_fault : Plan → Plan
plan_after_fault plan = record plan { calls = one_higher plan.calls; faults = one_higher plan.faults }
