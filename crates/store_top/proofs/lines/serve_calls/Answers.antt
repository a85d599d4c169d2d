use Rattle.std.proofs.Common.{◌≡◌, Err, arith, refl, sym, ◌∙◌}
use Rattle.std.proofs.lemmas.Result.{err_from_is_err_and}
use Rattle.engine_core.specs.Seen.{disk_of}
use Rattle.session_run.specs.declared.printing.RunFault.TheVariants.{Write}
use Rattle.history_model.proofs.Failures.{failed-at, none-failed, tells-more}
use Rattle.crash_model.proofs.Moves.{moves-more, moves-none}
use Rattle.store_top.proofs.CallsServed.{serving-none, serving-more, serving-breaks, serving-refused, serving-entered}
use Rattle.store_top.proofs.lines.serve_calls.Goals as goal

pub loop-call-init : goal.loop-call-init
loop-call-init g c =
    let D = g.D.Disk in
    record {
      room = rw c.into_iter-call-iterator.ensures.into_iter_gives.0 (omega (arith, c.requires.room));
      base = refl;
      start = refl;
      journal = refl;
      steady = refl;
      serving = rw (c.into_iter-call-iterator.ensures.into_iter_gives.0, c.requires.fresh) (serving-none c.args.engine.now.base c.args.calls.items (g.W.Sink.written c.args.sink.now) c.requires.numbered c.requires.readable c.requires.input.sessions);
      moves = rw c.requires.fresh (moves-none D.leaves D.moment D.might_have_left g.met.D.Disk.only_now D.honest D.faults c.args.engine.now.base c.args.engine.now.start c.requires.sound (disk_of c.args.engine.now) c.requires.left);
      failed = rw c.requires.fresh (none-failed c.args.engine.now.base);
    }

-- the call was answered with a fault of the disk
pub loop-call-preserved-then-branch : goal.loop-call-preserved-then-branch
loop-call-preserved-then-branch g c =
    let D = g.D.Disk in
    let so_far = c.loop-call.invariant in
    let own = c.in_ok-serve_call.ensures in
    let before = rw c.in-Some.ensures.steps.0 at so_far.serving in
    let makes = rw so_far.base at own.makes in
    let room = own.room in
    let left = rw c.in-Some.ensures.steps.0 at so_far.room in
    let calls = c.args.calls.items in
    let start = g.W.Sink.written c.args.sink.now in
    let mid = g.W.Sink.written c.loop-call.sink in
    let new = g.W.Sink.written c.serve_call.new.sink in
    record {
      room = omega arith;
      base = own.base ∙ so_far.base;
      start = own.start ∙ so_far.start;
      journal = own.journal ∙ so_far.journal;
      steady = own.steady (λ failed. cc) ∙ so_far.steady;
      serving = serving-more c.args.engine.now.base calls c.loop-call.yielded c.in-Some.call _ c.loop-call.engine.history c.serve_call.new.engine.history start mid new before c.in_ok-serve_call.field-0 makes;
      moves = moves-more D.leaves D.moment D.might_have_left g.met.D.Disk.only_now D.honest D.faults c.args.engine.now.base c.args.engine.now.start c.requires.sound
          c.loop-call.engine.history c.serve_call.new.engine.history _ _ makes.history_is before.entries
          (serving-entered c.args.engine.now.base calls c.loop-call.yielded c.in-Some.call _ c.loop-call.engine.history c.serve_call.new.engine.history start mid new before _ makes)
          (disk_of c.args.engine.now) (disk_of c.loop-call.engine) (disk_of c.serve_call.new.engine) so_far.moves (rw (so_far.base, so_far.start) at own.moves);
      failed = failed-at c.args.engine.now.base c.serve_call.new.engine.history _ (sym (rw so_far.base at own.failed) ∙ c.if-branch.true);
    }

-- it wasn't
pub loop-call-preserved : goal.loop-call-preserved
loop-call-preserved g c =
    let D = g.D.Disk in
    let so_far = c.loop-call.invariant in
    let own = c.in_ok-serve_call.ensures in
    let before = rw c.in-Some.ensures.steps.0 at so_far.serving in
    let makes = rw so_far.base at own.makes in
    let room = own.room in
    let left = rw c.in-Some.ensures.steps.0 at so_far.room in
    let calls = c.args.calls.items in
    let start = g.W.Sink.written c.args.sink.now in
    let mid = g.W.Sink.written c.loop-call.sink in
    let new = g.W.Sink.written c.serve_call.new.sink in
    record {
      room = omega arith;
      base = own.base ∙ so_far.base;
      start = own.start ∙ so_far.start;
      journal = own.journal ∙ so_far.journal;
      steady = own.steady (λ failed. cc) ∙ so_far.steady;
      serving = serving-more c.args.engine.now.base calls c.loop-call.yielded c.in-Some.call _ c.loop-call.engine.history c.serve_call.new.engine.history start mid new before c.in_ok-serve_call.field-0 makes;
      moves = moves-more D.leaves D.moment D.might_have_left g.met.D.Disk.only_now D.honest D.faults c.args.engine.now.base c.args.engine.now.start c.requires.sound
          c.loop-call.engine.history c.serve_call.new.engine.history _ _ makes.history_is before.entries
          (serving-entered c.args.engine.now.base calls c.loop-call.yielded c.in-Some.call _ c.loop-call.engine.history c.serve_call.new.engine.history start mid new before _ makes)
          (disk_of c.args.engine.now) (disk_of c.loop-call.engine) (disk_of c.serve_call.new.engine) so_far.moves (rw (so_far.base, so_far.start) at own.moves);
      failed = tells-more c.args.engine.now.base c.loop-call.engine.history c.serve_call.new.engine.history _ _ makes.history_is c.loop-call.failed so_far.failed
          (sym (rw so_far.base at own.failed) ∙ c.if-branch.false);
    }

pub returns-in_err-serve_call-clause-broken : goal.returns-in_err-serve_call-clause-broken
returns-in_err-serve_call-clause-broken g c is =
    let before = rw c.in-Some.ensures.steps.0 at c.loop-call.invariant.serving in
    let failed = err_from_is_err_and c.from_residual.result c.from_residual.ensures.1 in
    serving-breaks c.args.engine.now.base c.args.calls.items c.loop-call.yielded c.in-Some.call _ c.loop-call.engine.history c.serve_call.new.engine.history
    (g.W.Sink.written c.args.sink.now) (g.W.Sink.written c.loop-call.sink) (g.W.Sink.written c.serve_call.new.sink) before (Err c.in_err-serve_call.field-0.0)
    (rw c.loop-call.invariant.base at c.in_err-serve_call.ensures.makes) (cc (is, failed.1, failed.2))

pub returns-in_err-serve_call-clause-refused : goal.returns-in_err-serve_call-clause-refused
returns-in_err-serve_call-clause-refused g c is =
    let before = rw c.in-Some.ensures.steps.0 at c.loop-call.invariant.serving in
    let failed = err_from_is_err_and c.from_residual.result c.from_residual.ensures.1 in
    serving-refused c.args.engine.now.base c.args.calls.items c.loop-call.yielded c.in-Some.call _ c.loop-call.engine.history c.serve_call.new.engine.history
    (g.W.Sink.written c.args.sink.now) (g.W.Sink.written c.loop-call.sink) (g.W.Sink.written c.serve_call.new.sink) before (Err c.in_err-serve_call.field-0.0)
    (rw c.loop-call.invariant.base at c.in_err-serve_call.ensures.makes) (cc (is, failed.1, failed.2))

-- the call went on from what those before it did to the disk
pub returns-in_err-serve_call-clause-moves : goal.returns-in_err-serve_call-clause-moves
returns-in_err-serve_call-clause-moves g c =
    let D = g.D.Disk in
    let so_far = c.loop-call.invariant in
    let own = c.in_err-serve_call.ensures in
    let before = rw c.in-Some.ensures.steps.0 at so_far.serving in
    let makes = rw so_far.base at own.makes in
    moves-more D.leaves D.moment D.might_have_left g.met.D.Disk.only_now D.honest D.faults c.args.engine.now.base c.args.engine.now.start c.requires.sound
    c.loop-call.engine.history c.serve_call.new.engine.history _ _ makes.history_is before.entries
    (serving-entered c.args.engine.now.base c.args.calls.items c.loop-call.yielded c.in-Some.call _ c.loop-call.engine.history c.serve_call.new.engine.history
    (g.W.Sink.written c.args.sink.now) (g.W.Sink.written c.loop-call.sink) (g.W.Sink.written c.serve_call.new.sink) before _ makes)
    (disk_of c.args.engine.now) (disk_of c.loop-call.engine) (disk_of c.serve_call.new.engine) so_far.moves (rw (so_far.base, so_far.start) at own.moves)

-- the call met a write fault, and no call before it did
pub returns-in_err-serve_call-clause-fault : goal.returns-in_err-serve_call-clause-fault
returns-in_err-serve_call-clause-fault g c is =
    let failed = err_from_is_err_and c.from_residual.result c.from_residual.ensures.1 in
    let own : Err c.in_err-serve_call.field-0.0 ≡ Err Write = cc (is, failed.1, failed.2) in
    let before = c.loop-call.invariant.steady in
    let last = c.in_err-serve_call.ensures.last own in
    record {
      rose = rw (← before) (c.in_err-serve_call.ensures.fault own);
      last = (last.0, last.1 ∙ before, last.2);
    }

-- it met none
pub returns-in_err-serve_call-clause-steady : goal.returns-in_err-serve_call-clause-steady
returns-in_err-serve_call-clause-steady g c other =
    let failed = err_from_is_err_and c.from_residual.result c.from_residual.ensures.1 in
    c.in_err-serve_call.ensures.steady (λ own. other (cc (own, failed.1, failed.2))) ∙ c.loop-call.invariant.steady
