use Rattle.std.proofs.Common.{◌≡◌, ◌≤◌, ◌+◌, ◌++◌, length, map}
use Rattle.std.specs.Prelude.{true, vec_capacity, vec_len}
use Rattle.std.specs.List.{AllByRecursion}
use Rattle.std.specs.Vec.Iter.{into_iter_items}
use Rattle.own_model.specs.declared.limit.TheConstants.{SESSIONS}
use Rattle.commit_turn.specs.Passes.{IsFresh, IsPassOf, is_lead, view_of}
use Rattle.session_run.specs.Jobs.{HasPlaces, IsSentFrom, lead_sent, number_of}
use Rattle.session_run.specs.Sessions.{StandOnce}
use Rattle.session_run.proofs.sessions.send_out.Given as goal

-- passes of the sessions so far are split off, and the rest are fresh
abbrev pub invariant-loop-plan : goal.invariant-loop-plan
invariant-loop-plan g l = record {
  pass : IsPassOf l.turn l.lead;
  lead : is_lead l.lead ≡ true;
  view : view_of l.lead ≡ lead_sent (map number_of l.yielded) (view_of l.fn.lead);
  whole : l.yielded ++ into_iter_items l.plan-iterator ≡ l.fn.plans.items;
  plans : map (λ job. job.plan) l.jobs.items ≡ l.yielded;
  passes : AllByRecursion (IsSentFrom l.turn (view_of l.fn.lead)) l.jobs.items;
  places : HasPlaces (view_of l.fn.lead) (map number_of l.yielded);
  numbers : AllByRecursion (λ plan. number_of plan ≤ SESSIONS) (into_iter_items l.plan-iterator);
  fresh : AllByRecursion (λ plan. IsFresh l.lead (number_of plan)) (into_iter_items l.plan-iterator);
  once : StandOnce (map number_of (into_iter_items l.plan-iterator));
  room : vec_len l.jobs + length (into_iter_items l.plan-iterator) ≤ vec_capacity l.jobs;
}
