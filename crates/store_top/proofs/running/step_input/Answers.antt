use Rattle.std.proofs.Common.{◌≡◌, List, [], inr, refl, subst, sym}
use Rattle.script_model.specs.Numbered.{AreNumbered}
use Rattle.script_model.proofs.InputCalls.{calls-numbered, calls-readable}
use Rattle.own_model.specs.declared.script.ScriptCall.{ScriptCall}
use Rattle.store_top.specs.declared.serving.Telling.TheVariants.{Lines}
use Rattle.store_top.specs.OnDisk.{IsServedOn}
use Rattle.store_top.specs.Ran.{LastFault}
use Rattle.store_top.specs.Steps.{AreOfInput, AreReadable, RunsTo, StopsAtCall, ToldBefore, ToldInPart}
use Rattle.store_top.specs.Top.{ServesScript}
use Rattle.store_top.proofs.InputLemmas.{unread-lawful, unread-no_disk, unread-undamaged}
use Rattle.store_top.proofs.OnDiskLemmas.{on_disk-before}
use Rattle.store_top.proofs.RanLemmas.{ran-served, ran-unread}
use Rattle.store_top.proofs.Runs.{input-calls, lines-over, over-lawful}
use Rattle.store_top.proofs.running.step_input.Goals as goal

-- the calls are those of the input
pub serve_script-requires-clause-numbered : goal.serve_script-requires-clause-numbered
serve_script-requires-clause-numbered g c = let read = c.in-Ok.ensures.read in subst (AreNumbered []) read.1 (calls-numbered read.0.bytes read.0.calls read.0.is_script)

pub serve_script-requires-clause-readable : goal.serve_script-requires-clause-readable
serve_script-requires-clause-readable g c = let read = c.in-Ok.ensures.read in subst AreReadable read.1 (calls-readable read.0.bytes read.0.calls read.0.is_script)

pub serve_script-requires-clause-input : goal.serve_script-requires-clause-input
serve_script-requires-clause-input g c = let read = c.in-Ok.ensures.read in subst AreOfInput read.1 (input-calls read.0.bytes read.0.calls read.0.is_script)

-- they were served
pub returns-in-Ok-clause-ran : goal.returns-in-Ok-clause-ran
returns-in-Ok-clause-ran g c =
    let source = g.R.Source in
    let sink = g.W.Sink in
    let read = c.in-Ok.ensures.read in
    let did = c.serve_script.ensures in
    let end = c.serve_script.result in
    let old = sink.written c.args.sink.now in
    let new = sink.written c.serve_script.new.sink in
    let rose = LastFault sink.faults sink.fails c.args.sink.now c.serve_script.new.sink in
    let silent = (c.serve_script.new.sink ≡ c.args.sink.now) × (end.history ≡ []) in
    let served : ServesScript Lines read.0.calls end.opened end.history old new rose silent end.fault =
    subst (λ (calls : List ScriptCall). ServesScript Lines calls end.opened end.history old new rose silent end.fault) (sym read.1) did.served in
    ran-served source.remaining source.faults source.fails sink.faults sink.fails c.args.source.now c.read_calls.new.source c.args.sink.now c.serve_script.new.sink end.history
    (λ base calls. RunsTo base calls end.history old new) (λ base calls. StopsAtCall base calls end.history (ToldInPart old new)) (λ base calls. StopsAtCall base calls end.history (ToldBefore old new))
    read.0 c.in-Ok.ensures.steady end.opened end.fault (lines-over read.0.calls end.opened end.history old new rose silent end.fault served) did.steady did.serial

pub returns-in-Ok-clause-lawful : goal.returns-in-Ok-clause-lawful
returns-in-Ok-clause-lawful g c =
    let sink = g.W.Sink in
    let end = c.serve_script.result in
    let old = sink.written c.args.sink.now in
    let new = sink.written c.serve_script.new.sink in
    let calls = c.in-Ok.calls.items in
    over-lawful end.opened end.history (LastFault sink.faults sink.fails c.args.sink.now c.serve_script.new.sink) ((c.serve_script.new.sink ≡ c.args.sink.now) × (end.history ≡ []))
    (λ base. RunsTo base calls end.history old new) (λ base. StopsAtCall base calls end.history (ToldInPart old new)) (λ base. StopsAtCall base calls end.history (ToldBefore old new)) end.fault
    (lines-over calls end.opened end.history old new _ _ end.fault c.serve_script.ensures.served)

pub returns-in-Ok-clause-order : goal.returns-in-Ok-clause-order
returns-in-Ok-clause-order g c = inr c.in-Ok.ensures.read.0

-- or the input couldn't be read
pub returns-in-Err-clause-ran : goal.returns-in-Err-clause-ran
returns-in-Err-clause-ran g c =
    let source = g.R.Source in
    let sink = g.W.Sink in
    let ended = c.without_calls.ensures in
    let old = sink.written c.args.sink.now in
    let end = c.without_calls.result in
    rw ended.fault (ran-unread source.remaining source.faults source.fails sink.faults sink.fails c.args.source.now c.read_calls.new.source c.args.sink.now c.args.sink.now end.history
    (λ base calls. RunsTo base calls end.history old old) (λ base calls. StopsAtCall base calls end.history (ToldInPart old old)) (λ base calls. StopsAtCall base calls end.history (ToldBefore old old))
    end.opened (record { unopened = ended.opened; unwritten = refl; uncalled = ended.history }) c.in-Err.fault c.in-Err.ensures.unread)

pub returns-in-Err-clause-lawful : goal.returns-in-Err-clause-lawful
returns-in-Err-clause-lawful g c =
    let source = g.R.Source in
    rw c.without_calls.ensures.fault (unread-lawful source.remaining source.faults _ c.args.source.now c.read_calls.new.source c.in-Err.fault c.in-Err.ensures.unread)

pub returns-in-Err-clause-on_disk : goal.returns-in-Err-clause-on_disk
returns-in-Err-clause-on_disk g c =
    let source = g.R.Source in
    let D = g.D.Disk in
    let ended = c.without_calls.ensures in
    let end = c.without_calls.result in
    rw ended.fault (on_disk-before D.holds D.leaves D.moment D.might_have_left D.honest D.faults c.args.disk end.disk end.opened end.history
    (λ base. IsServedOn D.holds D.leaves D.moment D.might_have_left c.args.disk end.disk base end.history) g.met.D.Disk.only_now c.in-Err.fault ended.disk ended.opened
    (unread-no_disk source.remaining source.faults _ c.args.source.now c.read_calls.new.source c.in-Err.fault c.in-Err.ensures.unread)
    (unread-undamaged source.remaining source.faults _ c.args.source.now c.read_calls.new.source c.in-Err.fault c.in-Err.ensures.unread))
