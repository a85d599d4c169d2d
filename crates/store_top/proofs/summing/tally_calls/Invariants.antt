use Rattle.std.proofs.Common.{◌≡◌, ◌≤◌, length}
use Rattle.std.specs.Vec.Iter.{into_iter_items}
use Rattle.engine_core.specs.Seen.{disk_of}
use Rattle.history_model.specs.Fails.{TellsFailure}
use Rattle.crash_model.specs.MovesDisk.{MovesDisk}
use Rattle.store_top.proofs.CallsTallied.{Tallying}
use Rattle.store_top.proofs.summing.tally_calls.Given as goal

-- the calls so far are made and added up, and the rest are left
abbrev pub invariant-loop-call : goal.invariant-loop-call
invariant-loop-call g l = record {
  room : length (into_iter_items l.call-iterator) ≤ l.engine.spare;
  base : l.engine.base ≡ l.fn.engine.base;
  start : l.engine.start ≡ l.fn.engine.start;
  journal : l.engine.journal ≡ l.fn.engine.journal;
  tallying : Tallying l.fn.engine.base l.fn.calls.items l.yielded (into_iter_items l.call-iterator) l.engine.history l.tally;
  moves : MovesDisk g.D.Disk.moment g.D.Disk.might_have_left g.D.Disk.honest g.D.Disk.faults l.fn.engine.base l.fn.engine.start l.engine.history (disk_of l.fn.engine) (disk_of l.engine);
  failed : TellsFailure l.failed l.fn.engine.base l.engine.history;
}
