use Rattle.std.proofs.Common.{refl, ◌∙◌, ◌+◌, arith, inl, inr}
use Rattle.std.specs.Prelude.{Err, Some, true, false}
use Rattle.call_stream.specs.declared.fault.StreamFault.TheVariants.{TooLong}
use Rattle.shell_session.specs.DiskView.{view_of}
use Rattle.shell_session.specs.Opening.{opening_of}
use Rattle.shell_session.specs.declared.ending.ShellFault.TheVariants.{Input, Read, Write}
use Rattle.shell_session.proofs.LifeLemmas.{unopened-input, unopened-other}
use Rattle.shell_session.proofs.PieceLemmas.{closed-over, lived-closed, lived-cut, lived-end, lived-piece, lives-ended, ok-other, on-none, on-piece, on-silent, untold-unmet}
use Rattle.shell_session.proofs.shell.serve_pieces.Goals as goal

-- nothing was read yet
pub loop-init : goal.loop-init
loop-init g c = let view = view_of g.D.Disk.leaves g.D.Disk.moment g.D.Disk.might_have_left g.D.Disk.honest g.D.Disk.faults in record {
  room = c.requires.room;
  sound = c.new-stream.ensures.sound;
  keeps = c.requires.keeps;
  read = c.new-stream.ensures.read;
  lives = on-none view c.args.manner.form (opening_of c.args.opened.engine) c.new-stream.result (g.R.Source.remaining c.args.source.now) (g.W.Sink.written c.args.sink.now) c.new-stream.ensures.taken;
  read_steady = refl;
  write_steady = refl;
}

-- the input is at its end
pub returns-in-Ok-false-clause-lives : goal.returns-in-Ok-false-clause-lives
returns-in-Ok-false-clause-lives g c = let view = view_of g.D.Disk.leaves g.D.Disk.moment g.D.Disk.might_have_left g.D.Disk.honest g.D.Disk.faults in
    let form = c.args.manner.form in
    let first = opening_of c.args.opened.engine in
    let here = opening_of c.serve_piece.new.opened.engine in
    let last = c.finished.ensures.serves.0 in
    let piece = rw c.in-Ok-false.field-0-test at c.in-Ok-false.ensures.serves in
    let so_far = on-piece view form first (opening_of c.loop.opened.engine) here c.loop.counter 0 c.loop.stream c.serve_piece.new.stream false (g.R.Source.remaining c.args.source.now) (g.R.Source.remaining c.loop.source)
    (g.R.Source.remaining c.serve_piece.new.source) (g.W.Sink.written c.args.sink.now) (g.W.Sink.written c.loop.sink) (g.W.Sink.written c.serve_piece.new.sink) c.loop.invariant.lives piece (λ some. absurd (omega (arith, some))) in
    lives-ended view form first last c.finished.result.fault c.finished.result.disk (g.R.Source.remaining c.args.source.now) (g.R.Source.remaining c.serve_piece.new.source) (g.W.Sink.written c.args.sink.now) (g.W.Sink.written c.finished.new.sink)
    (lived-end view c.calls_are_given.ensures form first here last (c.loop.counter + 0) c.serve_piece.new.stream c.finished.result.fault (g.R.Source.remaining c.args.source.now)
    (g.R.Source.remaining c.serve_piece.new.source) (g.W.Sink.written c.args.sink.now) (g.W.Sink.written c.serve_piece.new.sink) (g.W.Sink.written c.finished.new.sink)
    (piece.end refl) so_far c.finished.ensures.serves.1)
    (inl c.finished.ensures.serves.2)

-- the next bytes were served, and the store may have been opened anew
pub loop-preserved : goal.loop-preserved
loop-preserved g c = let view = view_of g.D.Disk.leaves g.D.Disk.moment g.D.Disk.might_have_left g.D.Disk.honest g.D.Disk.faults in
    let form = c.args.manner.form in
    let first = opening_of c.args.opened.engine in
    let mid = opening_of c.serve_piece.new.opened.engine in
    let own = c.in-Ok-true.ensures in
    let piece = rw c.in-Ok-true.field-0-test at own.serves in
    let so_far = on-piece view form first (opening_of c.loop.opened.engine) mid c.loop.counter 1 c.loop.stream c.serve_piece.new.stream true (g.R.Source.remaining c.args.source.now) (g.R.Source.remaining c.loop.source)
    (g.R.Source.remaining c.serve_piece.new.source) (g.W.Sink.written c.args.sink.now) (g.W.Sink.written c.loop.sink) (g.W.Sink.written c.serve_piece.new.sink) c.loop.invariant.lives piece (λ some. (refl, refl)) in
    record {
      room = rw own.room c.loop.invariant.room;
      sound = own.sound;
      keeps = c.in-Ok.ensures.keeps;
      read = own.read c.loop.invariant.read;
      lives = on-silent view form first mid (opening_of c.in-Ok.opened.engine) (c.loop.counter + 1) c.serve_piece.new.stream (g.R.Source.remaining c.args.source.now) (g.R.Source.remaining c.serve_piece.new.source)
          (g.W.Sink.written c.args.sink.now) (g.W.Sink.written c.serve_piece.new.sink) so_far c.in-Ok.ensures.ok;
      read_steady = own.read_steady (ok-other c.in-Ok-true.field-0 Read) ∙ c.loop.invariant.read_steady;
      write_steady = own.steady (ok-other c.in-Ok-true.field-0 Write) ∙ c.loop.invariant.write_steady;
    }

-- the next bytes, or their calls, met a fault
pub returns-in-Err-clause-lives : goal.returns-in-Err-clause-lives
returns-in-Err-clause-lives g c = let view = view_of g.D.Disk.leaves g.D.Disk.moment g.D.Disk.might_have_left g.D.Disk.honest g.D.Disk.faults in
    let form = c.args.manner.form in
    let first = opening_of c.args.opened.engine in
    let here = opening_of c.serve_piece.new.opened.engine in
    let old = g.R.Source.remaining c.args.source.now in
    let new = g.R.Source.remaining c.serve_piece.new.source in
    let written_old = g.W.Sink.written c.args.sink.now in
    let written_new = g.W.Sink.written c.serve_piece.new.sink in
    lives-ended view form first here c.closed.result.fault c.closed.result.disk old new written_old written_new
    (lived-closed view form first here c.in-Err.fault c.closed.result.fault old new written_old written_new c.closed.ensures.same
    (lived-piece view c.calls_are_given.ensures c.given_calls_stay.ensures form first (opening_of c.loop.opened.engine) here c.loop.counter c.loop.stream c.serve_piece.new.stream
    c.in-Err.fault old (g.R.Source.remaining c.loop.source) new written_old (g.W.Sink.written c.loop.sink) written_new c.loop.invariant.lives c.in-Err.ensures.serves))
    (inl (closed-over c.serve_piece.new.opened.book here c.closed.result.fault c.closed.result.disk c.in-Err.ensures.keeps c.closed.ensures.failed c.closed.ensures.calm c.closed.ensures.undamaged c.closed.ensures.disk))

-- the store could not be opened anew
pub returns-in-Err-renewed-clause-lives : goal.returns-in-Err-renewed-clause-lives
returns-in-Err-renewed-clause-lives g c = let view = view_of g.D.Disk.leaves g.D.Disk.moment g.D.Disk.might_have_left g.D.Disk.honest g.D.Disk.faults in
    let form = c.args.manner.form in
    let first = opening_of c.args.opened.engine in
    let mid = opening_of c.serve_piece.new.opened.engine in
    let old = g.R.Source.remaining c.args.source.now in
    let new = g.R.Source.remaining c.serve_piece.new.source in
    let written_old = g.W.Sink.written c.args.sink.now in
    let written_new = g.W.Sink.written c.serve_piece.new.sink in
    let piece = rw c.in-Ok-true.field-0-test at c.in-Ok-true.ensures.serves in
    let so_far = on-piece view form first (opening_of c.loop.opened.engine) mid c.loop.counter 1 c.loop.stream c.serve_piece.new.stream true old (g.R.Source.remaining c.loop.source)
    new written_old (g.W.Sink.written c.loop.sink) written_new c.loop.invariant.lives piece (λ some. (refl, refl)) in
    let silent = c.in-Err-renewed.ensures.err in
    rw (c.ended.ensures.fault, c.ended.ensures.disk)
    (lives-ended view form first silent.0 (Some c.unopened.result) c.in-Err-renewed.disk old new written_old written_new
    (lived-cut view c.calls_are_given.ensures form first silent.0 (c.loop.counter + 1) c.serve_piece.new.stream c.unopened.result old new written_old written_new
    (rw c.unopened.ensures (unopened-other c.in-Err-renewed.fault)) (on-silent view form first mid silent.0 (c.loop.counter + 1) c.serve_piece.new.stream old new written_old written_new so_far silent.1)
    (λ why is. absurd (unopened-input c.in-Err-renewed.fault why (rw c.unopened.ensures at is))))
    (inr (record { why = c.unopened.result; fault_is = refl; not_renewed = rw c.unopened.ensures silent.2 })))

-- more pieces came than a stream takes bytes
pub returns-clause-lives : goal.returns-clause-lives
returns-clause-lives g c = let view = view_of g.D.Disk.leaves g.D.Disk.moment g.D.Disk.might_have_left g.D.Disk.honest g.D.Disk.faults in
    let form = c.args.manner.form in
    let first = opening_of c.args.opened.engine in
    let here = opening_of c.loop.opened.engine in
    let old = g.R.Source.remaining c.args.source.now in
    let new = g.R.Source.remaining c.loop.source in
    let written_old = g.W.Sink.written c.args.sink.now in
    let written_new = g.W.Sink.written c.loop.sink in
    lives-ended view form first here c.closed-2.result.fault c.closed-2.result.disk old new written_old written_new
    (lived-closed view form first here (Input TooLong) c.closed-2.result.fault old new written_old written_new c.closed-2.ensures.same
    (lived-cut view c.calls_are_given.ensures form first here c.loop.counter c.loop.stream (Input TooLong) old new written_old written_new (λ is. cc) c.loop.invariant.lives
    (λ why is. (cc, omega (arith, c.loop-test)))))
    (inl (closed-over c.loop.opened.book here c.closed-2.result.fault c.closed-2.result.disk c.loop.invariant.keeps c.closed-2.ensures.failed c.closed-2.ensures.calm c.closed-2.ensures.undamaged c.closed-2.ensures.disk))

-- a read that didn't fail raised no count
pub returns-in-Err-clause-read_steady : goal.returns-in-Err-clause-read_steady
returns-in-Err-clause-read_steady g c untold =
    c.in-Err.ensures.read_steady (untold-unmet c.in-Err.fault Read c.closed.result.fault (Err c.in-Err.fault) c.closed.ensures.same (λ is. cc) untold refl) ∙ c.loop.invariant.read_steady

-- nor did a write
pub returns-in-Err-clause-write_steady : goal.returns-in-Err-clause-write_steady
returns-in-Err-clause-write_steady g c untold =
    c.in-Err.ensures.steady (untold-unmet c.in-Err.fault Write c.closed.result.fault (Err c.in-Err.fault) c.closed.ensures.same (λ is. cc) untold refl) ∙ c.loop.invariant.write_steady
