use Rattle.std.proofs.Common.{◌≡◌, ◌≤◌, ◌+◌, ◌++◌, length}
use Rattle.std.specs.Prelude.{IfSome, vec_capacity, vec_len}
use Rattle.std.specs.Vec.Iter.{into_iter_items}
use Rattle.commit_turn.specs.Passes.{IsPassOf, seen}
use Rattle.session_run.specs.Learning.{IsLearnt}
use Rattle.session_run.specs.Serving.{AreReadable, ServesCalls, WorksFor, base_of}
use Rattle.session_run.proofs.working.serve_calls.Given as goal

-- the calls so far are made and told, and the rest are left
abbrev pub invariant-loop-asked : goal.invariant-loop-asked
invariant-loop-asked g l = record {
  pass : IsPassOf l.turn l.pass;
  worker : WorksFor l.pass l.session.0;
  whole : l.yielded ++ into_iter_items l.asked-iterator ≡ l.fn.calls.items;
  readable : AreReadable (into_iter_items l.asked-iterator);
  served : ServesCalls l.fn.pass l.pass l.session l.yielded l.tolds.items;
  learnt : IfSome l.learnt (IsLearnt (base_of l.pass) (seen l.pass));
  room : vec_len l.tolds + length (into_iter_items l.asked-iterator) ≤ vec_capacity l.tolds;
}
