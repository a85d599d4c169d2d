use Rattle.std.proofs.Common.{◌∙◌, ap, inr, subst, sym}
use Rattle.std.proofs.lemmas.Result.{IfOk-weaker}
use Rattle.own_model.specs.Db.{Db}
use Rattle.history_model.specs.Fails.{TellsFailure}
use Rattle.turn_model.specs.Start.{Start}
use Rattle.session_run.specs.Serving.{base_of}
use Rattle.session_run.specs.Written.{MakesTogether, TellsSessions, WritesText, is_failed_some}
use Rattle.session_run.proofs.FirstLemmas.{all-fresh, base-none, kept-none}
use Rattle.session_run.proofs.TogetherLemmas.{tells-sessions, written-sessions}
use Rattle.session_run.proofs.serving.serve_sessions.Goals as goal

pub run_threads-requires-clause-fresh : goal.run_threads-requires-clause-fresh
run_threads-requires-clause-fresh g c κs within = all-fresh c.args.lead c.requires.fresh c.args.sessions

-- what is told is the text of what the sessions made
pub returns-in-Ok-clause-served : goal.returns-in-Ok-clause-served
returns-in-Ok-clause-served g c =
    let sink = g.W.Sink in
    let lead = c.run_threads.new.lead in
    let did = c.in-Ok.ensures in
    let history = g.S.Keeps.history c.close-serves.result in
    let sessions = c.args.sessions in
    let tells : TellsSessions (base_of lead) sessions history c.in-Ok.replies =
    tells-sessions lead history sessions c.in-Ok.replies did.served (did.base ∙ base-none c.args.lead c.requires.fresh) c.close-serves.ensures.entries c.close-serves.ensures.places
    (λ session elsewhere. did.others session elsewhere ∙ kept-none c.args.lead c.requires.fresh session) c.requires.once c.requires.numbered in
    let old = sink.written c.args.sink.now in
    let new = sink.written c.tell_sessions-told.new.sink in
    let result = c.tell_sessions-told.result in
    let made : MakesTogether (base_of lead) sessions history (λ text. WritesText old new text result) = record {
      text = tells.text;
      together = tells.together;
      told = written-sessions (base_of lead) sessions history c.in-Ok.replies tells old new result c.tell_sessions-told.ensures.written;
    } in
    inr (subst (λ (base : Db). MakesTogether base sessions history (λ text. WritesText old new text result)) (ap (λ (start : Start). start.base) did.start) made)

pub returns-in-Ok-clause-failed : goal.returns-in-Ok-clause-failed
returns-in-Ok-clause-failed g c =
    let lead = c.run_threads.new.lead in
    let did = c.in-Ok.ensures in
    let history = g.S.Keeps.history c.close-serves.result in
    let tells : TellsSessions (base_of lead) c.args.sessions history c.in-Ok.replies =
    tells-sessions lead history c.args.sessions c.in-Ok.replies did.served (did.base ∙ base-none c.args.lead c.requires.fresh) c.close-serves.ensures.entries c.close-serves.ensures.places
    (λ session elsewhere. did.others session elsewhere ∙ kept-none c.args.lead c.requires.fresh session) c.requires.once c.requires.numbered in
    IfOk-weaker c.tell_sessions-told.result _ _
    (λ failed is. subst (λ b. TellsFailure b (base_of c.args.lead) history) (sym is)
    (subst (λ (base : Db). TellsFailure (is_failed_some c.in-Ok.replies) base history) (ap (λ (start : Start). start.base) did.start) tells.failed))
    c.tell_sessions-told.ensures.failed
