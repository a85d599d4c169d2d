use Rattle.std.proofs.Common.{◌≡◌, ◌≤◌, ◌+◌, ◌++◌, length, map}
use Rattle.std.specs.Prelude.{vec_capacity, vec_len}
use Rattle.std.specs.List.{AllByRecursion}
use Rattle.std.specs.Vec.Iter.{into_iter_items}
use Rattle.session_run.specs.Jobs.{HasRoom}
use Rattle.session_run.proofs.sessions.plan_sessions.Given as goal

-- the sessions so far have their room, and the rest are left
abbrev pub invariant-loop-calls : goal.invariant-loop-calls
invariant-loop-calls l = record {
  whole : map (λ plan. plan.calls) l.plans.items ++ into_iter_items l.calls-iterator ≡ l.fn.sessions;
  rooms : AllByRecursion HasRoom l.plans.items;
  room : vec_len l.plans + length (into_iter_items l.calls-iterator) ≤ vec_capacity l.plans;
}
