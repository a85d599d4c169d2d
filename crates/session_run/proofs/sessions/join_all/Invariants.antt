use Rattle.std.proofs.Common.{◌≡◌, ◌≤◌, ◌+◌, ◌++◌, length, map}
use Rattle.std.specs.Prelude.{vec_capacity, vec_len}
use Rattle.std.specs.List.{AllByRecursion}
use Rattle.std.specs.Vec.Iter.{into_iter_items}
use Rattle.commit_turn.specs.Passes.{IsPassOf, view_of}
use Rattle.session_run.specs.Jobs.{AreJoined, number_of, replies_of}
use Rattle.session_run.proofs.sessions.join_all.Given as goal

-- the passes of the jobs so far are joined, and the rest are left
abbrev pub invariant-loop-job : goal.invariant-loop-job
invariant-loop-job g l = record {
  pass : IsPassOf l.turn l.lead;
  joined : AreJoined l.fn.lead l.lead l.yielded;
  whole : l.yielded ++ into_iter_items l.job-iterator ≡ l.fn.jobs.items;
  replies : l.replies.items ≡ map replies_of l.yielded;
  passes : AllByRecursion (λ job. IsPassOf l.turn job.pass × ((view_of job.pass).session ≡ number_of job.plan)) (into_iter_items l.job-iterator);
  room : vec_len l.replies + length (into_iter_items l.job-iterator) ≤ vec_capacity l.replies;
}
