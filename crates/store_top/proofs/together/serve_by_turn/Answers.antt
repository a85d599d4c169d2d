use Rattle.std.proofs.Common.{◌≡◌, ◌∙◌, [], ap, inl, refl, subst, sym}
use Rattle.std.specs.Prelude.{◌⊎◌, Bool, Result, IfOk}
use Rattle.own_model.specs.Db.{Db}
use Rattle.history_model.specs.Fails.{TellsFailure}
use Rattle.turn_model.proofs.Sent.{passed_send}
use Rattle.commit_turn.specs.declared.view.View.{View}
use Rattle.commit_turn.specs.Rule.{first}
use Rattle.session_run.specs.declared.printing.RunFault.{RunFault}
use Rattle.session_run.specs.Serving.{base_of}
use Rattle.session_run.specs.Written.{IsUncalled, MakesTogether, WritesText}
use Rattle.store_snapshot.proofs.Sent.{snapshot_send}
use Rattle.engine_core.specs.Seen.{Seen, start_of}
use Rattle.engine_core.proofs.Sent.{engine_send}
use Rattle.store_top.specs.Ran.{LastFault}
use Rattle.store_top.specs.Status.{fault_of}
use Rattle.store_top.proofs.TogetherLemmas.{leaves-disk, together-served}
use Rattle.store_top.proofs.together.serve_by_turn.Goals as goal

-- the engine may be sent to the workers, and what it shows
pub serve_sessions-engine-requires-send-S : goal.serve_sessions-engine-requires-send-S
serve_sessions-engine-requires-send-S g c κs within = passed_send _ _ _ (engine_send _ _ c.type_bounds.send-D)

pub serve_sessions-engine-requires-send-S-Snap : goal.serve_sessions-engine-requires-send-S-Snap
serve_sessions-engine-requires-send-S-Snap g c κs within = passed_send _ _ _ snapshot_send

-- the turn's lead has seen nothing yet
pub serve_sessions-engine-requires-clause-lead : goal.serve_sessions-engine-requires-clause-lead
serve_sessions-engine-requires-clause-lead g c κs within = (c.in-Ok.ensures.pass, ap (λ (view : View). view.lead) c.in-Ok.ensures.view)

pub serve_sessions-engine-requires-clause-fresh : goal.serve_sessions-engine-requires-clause-fresh
serve_sessions-engine-requires-clause-fresh g c κs within =
    c.in-Ok.ensures.view ∙ (λ i. first (c.requires.fresh i) (ap (λ (view : View). view.start) (sym c.in-Ok.ensures.view) i))

-- what the sessions came to is told over the database that was opened
pub returns-in-Ok-clause-served : goal.returns-in-Ok-clause-served
returns-in-Ok-clause-served g c =
    let sink = g.W.Sink in
    let did = c.serve_sessions-engine.ensures in
    let lead = c.in-Ok.lead in
    let history = c.serve_sessions-engine.result.0.history in
    let sessions = c.args.sessions in
    let old = sink.written c.args.sink.now in
    let new = sink.written c.serve_sessions-engine.new.sink in
    let served = c.serve_sessions-engine.result.1 in
    let over : base_of lead ≡ c.args.engine.base = ap (λ (view : View). view.start.base) c.in-Ok.ensures.view in
    rw (c.end_of.ensures.fault, c.fault_of.ensures, c.end_of.ensures.history) (together-served c.args.sink.now c.serve_sessions-engine.new.sink c.args.engine.base sessions history old new
    (LastFault sink.faults sink.fails c.args.sink.now c.serve_sessions-engine.new.sink) served
    (subst (λ (base : Db). IsUncalled c.args.sink.now c.serve_sessions-engine.new.sink history served ⊎ MakesTogether base sessions history (λ text. WritesText old new text served)) over did.served)
    (subst (λ (base : Db). IfOk served (λ failed. TellsFailure failed base history)) over did.failed)
    (λ is. record { rose = did.fault is; last = did.last is }))

pub returns-in-Ok-clause-steady : goal.returns-in-Ok-clause-steady
returns-in-Ok-clause-steady g c other =
    c.serve_sessions-engine.ensures.steady (λ is. other (c.end_of.ensures.fault ∙ (c.fault_of.ensures ∙ ap fault_of is)))

-- and so is what became of the disk
pub returns-in-Ok-clause-disk : goal.returns-in-Ok-clause-disk
returns-in-Ok-clause-disk g c =
    let D = g.D.Disk in
    let end = c.end_of.ensures in
    leaves-disk D.holds D.leaves D.moment D.might_have_left D.honest D.faults c.args.engine c.serve_sessions-engine.result.0
    (c.serve_sessions-engine.ensures.start ∙ ap (λ (view : View). view.start) c.in-Ok.ensures.view) c.end_of.result.history c.end_of.result.disk c.requires.opening end.moves end.left end.exact end.alone

-- of an engine that was given back it is told as it stands
pub returns-in-Err-clause-disk : goal.returns-in-Err-clause-disk
returns-in-Err-clause-disk g c =
    let D = g.D.Disk in
    let end = c.end_of-in-Err.ensures in
    leaves-disk D.holds D.leaves D.moment D.might_have_left D.honest D.faults c.args.engine c.in-Err.engine
    (ap (λ (seen : Seen g.row.D.Denot). start_of D.moment D.honest D.faults seen) c.in-Err.ensures.given_back) c.end_of-in-Err.result.history c.end_of-in-Err.result.disk c.requires.opening end.moves end.left end.exact end.alone
