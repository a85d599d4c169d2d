use Rattle.std.proofs.Common.{arith, refl, sym, ◌∙◌}
use Rattle.engine_core.specs.Seen.{disk_of}
use Rattle.history_model.proofs.Failures.{failed-at, none-failed, tells-more}
use Rattle.crash_model.proofs.Moves.{moves-more, moves-none}
use Rattle.store_top.proofs.CallsTallied.{tallying-ends, tallying-entered, tallying-more, tallying-none, tallying-room}
use Rattle.store_top.proofs.summing.tally_calls.Goals as goal

pub loop-call-init : goal.loop-call-init
loop-call-init g c =
    let D = g.D.Disk in
    record {
      room = rw c.into_iter-call-iterator.ensures.into_iter_gives.0 (omega (arith, c.requires.room));
      base = refl;
      start = refl;
      journal = refl;
      tallying = rw (c.into_iter-call-iterator.ensures.into_iter_gives.0, c.requires.fresh)
          (tallying-none c.args.engine.now.base c.args.calls.items c.new-tally.result c.new-tally.ensures c.requires.readable c.requires.input.sessions);
      moves = rw c.requires.fresh (moves-none D.leaves D.moment D.might_have_left g.met.D.Disk.only_now D.honest D.faults c.args.engine.now.base c.args.engine.now.start c.requires.sound (disk_of c.args.engine.now) c.requires.left);
      failed = rw c.requires.fresh (none-failed c.args.engine.now.base);
    }

-- there is room for the call's reply
pub tally_call-requires-clause-few : goal.tally_call-requires-clause-few
tally_call-requires-clause-few g c =
    let before = rw c.in-Some.ensures.steps.0 at c.loop-call.invariant.tallying in
    tallying-room c.args.engine.now.base c.args.calls.items c.loop-call.yielded c.in-Some.call _ c.loop-call.engine.history c.loop-call.tally before c.requires.input.few

-- the call was answered with a fault of the disk
pub loop-call-preserved-then-tally_call : goal.loop-call-preserved-then-tally_call
loop-call-preserved-then-tally_call g c =
    let D = g.D.Disk in
    let so_far = c.loop-call.invariant in
    let own = c.tally_call.ensures in
    let before = rw c.in-Some.ensures.steps.0 at so_far.tallying in
    let tallies = rw so_far.base at own.tallies in
    let room = own.room in
    let left = rw c.in-Some.ensures.steps.0 at so_far.room in
    let base = c.args.engine.now.base in
    record {
      room = omega arith;
      base = own.base ∙ so_far.base;
      start = own.start ∙ so_far.start;
      journal = own.journal ∙ so_far.journal;
      tallying = tallying-more base c.args.calls.items c.loop-call.yielded c.in-Some.call _ c.loop-call.engine.history c.tally_call.new.engine.history c.loop-call.tally c.tally_call.new.tally before tallies;
      moves = moves-more D.leaves D.moment D.might_have_left g.met.D.Disk.only_now D.honest D.faults base c.args.engine.now.start c.requires.sound
          c.loop-call.engine.history c.tally_call.new.engine.history _ _ tallies.history_is before.entries
          (tallying-entered base c.args.calls.items c.loop-call.yielded c.in-Some.call _ c.loop-call.engine.history c.tally_call.new.engine.history c.loop-call.tally c.tally_call.new.tally before tallies)
          (disk_of c.args.engine.now) (disk_of c.loop-call.engine) (disk_of c.tally_call.new.engine) so_far.moves (rw (so_far.base, so_far.start) at own.moves);
      failed = failed-at base c.tally_call.new.engine.history _ (sym (rw so_far.base at own.failed) ∙ c.if-tally_call.true);
    }

-- it wasn't
pub loop-call-preserved : goal.loop-call-preserved
loop-call-preserved g c =
    let D = g.D.Disk in
    let so_far = c.loop-call.invariant in
    let own = c.tally_call.ensures in
    let before = rw c.in-Some.ensures.steps.0 at so_far.tallying in
    let tallies = rw so_far.base at own.tallies in
    let room = own.room in
    let left = rw c.in-Some.ensures.steps.0 at so_far.room in
    let base = c.args.engine.now.base in
    record {
      room = omega arith;
      base = own.base ∙ so_far.base;
      start = own.start ∙ so_far.start;
      journal = own.journal ∙ so_far.journal;
      tallying = tallying-more base c.args.calls.items c.loop-call.yielded c.in-Some.call _ c.loop-call.engine.history c.tally_call.new.engine.history c.loop-call.tally c.tally_call.new.tally before tallies;
      moves = moves-more D.leaves D.moment D.might_have_left g.met.D.Disk.only_now D.honest D.faults base c.args.engine.now.start c.requires.sound
          c.loop-call.engine.history c.tally_call.new.engine.history _ _ tallies.history_is before.entries
          (tallying-entered base c.args.calls.items c.loop-call.yielded c.in-Some.call _ c.loop-call.engine.history c.tally_call.new.engine.history c.loop-call.tally c.tally_call.new.tally before tallies)
          (disk_of c.args.engine.now) (disk_of c.loop-call.engine) (disk_of c.tally_call.new.engine) so_far.moves (rw (so_far.base, so_far.start) at own.moves);
      failed = tells-more base c.loop-call.engine.history c.tally_call.new.engine.history _ _ tallies.history_is c.loop-call.failed so_far.failed
          (sym (rw so_far.base at own.failed) ∙ c.if-tally_call.false);
    }
