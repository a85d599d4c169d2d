use Rattle.std.proofs.Common.{◌≡◌, List, [], inr, refl, subst, sym}
use Rattle.std.specs.Prelude.{◌⊎◌}
use Rattle.std.specs.Io.KnownBytes.{Appends}
use Rattle.outer_world.specs.PartOfBytes.{AppendsPart}
use Rattle.own_model.specs.declared.script.ScriptCall.{ScriptCall}
use Rattle.script_model.specs.Numbered.{AreNumbered}
use Rattle.script_model.specs.Split.{split}
use Rattle.script_model.proofs.InputCalls.{calls-numbered, calls-readable}
use Rattle.session_run.specs.Written.{AppendsFront, MakesTogether}
use Rattle.store_top.specs.Ran.{LastFault}
use Rattle.store_top.specs.RanTogether.{ServesTogether}
use Rattle.store_top.specs.Steps.{AreOfInput, AreReadable}
use Rattle.store_top.proofs.InputLemmas.{unread-lawful}
use Rattle.store_top.proofs.RanLemmas.{ran-served, ran-unread}
use Rattle.store_top.proofs.Runs.{input-calls, over-lawful}
use Rattle.store_top.proofs.running.serve_input.Goals as goal

-- the calls are those of the input
pub serve_together-requires-clause-numbered : goal.serve_together-requires-clause-numbered
serve_together-requires-clause-numbered g c κs within = let read = c.in-Ok.ensures.read in subst (AreNumbered []) read.1 (calls-numbered read.0.bytes read.0.calls read.0.is_script)

pub serve_together-requires-clause-readable : goal.serve_together-requires-clause-readable
serve_together-requires-clause-readable g c κs within = let read = c.in-Ok.ensures.read in subst AreReadable read.1 (calls-readable read.0.bytes read.0.calls read.0.is_script)

pub serve_together-requires-clause-input : goal.serve_together-requires-clause-input
serve_together-requires-clause-input g c κs within = let read = c.in-Ok.ensures.read in subst AreOfInput read.1 (input-calls read.0.bytes read.0.calls read.0.is_script)

-- they were served
pub returns-in-Ok-clause-ran : goal.returns-in-Ok-clause-ran
returns-in-Ok-clause-ran g c =
    let source = g.R.Source in
    let sink = g.W.Sink in
    let read = c.in-Ok.ensures.read in
    let did = c.serve_together.ensures in
    let end = c.serve_together.result in
    let old = sink.written c.args.sink.now in
    let new = sink.written c.serve_together.new.sink in
    let rose = LastFault sink.faults sink.fails c.args.sink.now c.serve_together.new.sink in
    let silent = (c.serve_together.new.sink ≡ c.args.sink.now) × (end.history ≡ []) in
    ran-served source.remaining source.faults source.fails sink.faults sink.fails c.args.source.now c.read_calls_in_parallel.new.source c.args.sink.now c.serve_together.new.sink end.history
    (λ base calls. MakesTogether base (split calls) end.history (Appends old new)) (λ base calls. MakesTogether base (split calls) end.history (AppendsPart old new))
    (λ base calls. silent ⊎ MakesTogether base (split calls) end.history (AppendsFront old new))
    read.0 c.in-Ok.ensures.steady end.opened end.fault
    (subst (λ (calls : List ScriptCall). ServesTogether (split calls) end.opened end.history old new rose silent end.fault) (sym read.1) did.served) did.steady did.serial

pub returns-in-Ok-clause-lawful : goal.returns-in-Ok-clause-lawful
returns-in-Ok-clause-lawful g c =
    let sink = g.W.Sink in
    let end = c.serve_together.result in
    let old = sink.written c.args.sink.now in
    let new = sink.written c.serve_together.new.sink in
    let sessions = split c.in-Ok.calls.items in
    let silent = (c.serve_together.new.sink ≡ c.args.sink.now) × (end.history ≡ []) in
    over-lawful end.opened end.history (LastFault sink.faults sink.fails c.args.sink.now c.serve_together.new.sink) silent
    (λ base. MakesTogether base sessions end.history (Appends old new)) (λ base. MakesTogether base sessions end.history (AppendsPart old new))
    (λ base. silent ⊎ MakesTogether base sessions end.history (AppendsFront old new)) end.fault c.serve_together.ensures.served

pub returns-in-Ok-clause-order : goal.returns-in-Ok-clause-order
returns-in-Ok-clause-order g c = inr c.in-Ok.ensures.read.0

-- or the input couldn't be read
pub returns-in-Err-clause-ran : goal.returns-in-Err-clause-ran
returns-in-Err-clause-ran g c =
    let source = g.R.Source in
    let sink = g.W.Sink in
    let ended = c.without_calls.ensures in
    let old = sink.written c.args.sink.now in
    let end = c.without_calls.result in
    rw ended.fault (ran-unread source.remaining source.faults source.fails sink.faults sink.fails c.args.source.now c.read_calls_in_parallel.new.source c.args.sink.now c.args.sink.now end.history
    (λ base calls. MakesTogether base (split calls) end.history (Appends old old)) (λ base calls. MakesTogether base (split calls) end.history (AppendsPart old old))
    (λ base calls. ((c.args.sink.now ≡ c.args.sink.now) × (end.history ≡ [])) ⊎ MakesTogether base (split calls) end.history (AppendsFront old old))
    end.opened (record { unopened = ended.opened; unwritten = refl; uncalled = ended.history }) c.in-Err.fault c.in-Err.ensures.unread)

pub returns-in-Err-clause-lawful : goal.returns-in-Err-clause-lawful
returns-in-Err-clause-lawful g c =
    let source = g.R.Source in
    rw c.without_calls.ensures.fault (unread-lawful source.remaining source.faults _ c.args.source.now c.read_calls_in_parallel.new.source c.in-Err.fault c.in-Err.ensures.unread)
