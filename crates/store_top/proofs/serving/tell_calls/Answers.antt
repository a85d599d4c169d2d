use Rattle.std.proofs.Common.{◌∙◌, [], ap}
use Rattle.std.specs.Io.KnownBytes.{Appends}
use Rattle.store_top.specs.Ran.{LastFault}
use Rattle.store_top.specs.Status.{fault_of}
use Rattle.store_top.specs.Steps.{RunsTo, StopsAtCall, SumsUp, ToldBefore, ToldInPart}
use Rattle.store_top.proofs.Runs.{calls-served}
use Rattle.store_top.proofs.serving.tell_calls.Goals as goal

-- the calls were told one after another
pub returns-in-Lines-clause-served : goal.returns-in-Lines-clause-served
returns-in-Lines-clause-served g c =
    let sink = g.W.Sink in
    let base = c.args.engine.now.base in
    let history = c.serve_calls.new.engine.history in
    let old = sink.written c.args.sink.now in
    let new = sink.written c.serve_calls.new.sink in
    let did = c.serve_calls.ensures in
    rw (c.in-Lines.is, c.fault_of.ensures) (calls-served base history (LastFault sink.faults sink.fails c.args.sink.now c.serve_calls.new.sink) (RunsTo base c.args.calls.items history old new)
    (StopsAtCall base c.args.calls.items history (ToldInPart old new)) (StopsAtCall base c.args.calls.items history (ToldBefore old new)) c.serve_calls.result did.served did.failed did.fault did.broken did.refused)

-- or summed up
pub returns-in-Summary-clause-served : goal.returns-in-Summary-clause-served
returns-in-Summary-clause-served g c =
    let sink = g.W.Sink in
    let base = c.args.engine.now.base in
    let history = c.sum_up_calls.new.engine.history in
    let old = sink.written c.args.sink.now in
    let new = sink.written c.sum_up_calls.new.sink in
    let did = c.sum_up_calls.ensures in
    rw (c.in-Summary.is, c.fault_of-in-Summary.ensures) (calls-served base history (LastFault sink.faults sink.fails c.args.sink.now c.sum_up_calls.new.sink) (SumsUp base c.args.calls.items history (Appends old new))
    (SumsUp base c.args.calls.items history (ToldInPart old new [])) (SumsUp base c.args.calls.items history (ToldBefore old new [])) c.sum_up_calls.result did.served did.failed did.fault did.broken did.refused)

-- a write fault is told as one
pub returns-in-Lines-clause-steady : goal.returns-in-Lines-clause-steady
returns-in-Lines-clause-steady g c other = c.serve_calls.ensures.steady (λ own. other (c.fault_of.ensures ∙ ap fault_of own))

pub returns-in-Summary-clause-steady : goal.returns-in-Summary-clause-steady
returns-in-Summary-clause-steady g c other = c.sum_up_calls.ensures.steady (λ own. other (c.fault_of-in-Summary.ensures ∙ ap fault_of own))
