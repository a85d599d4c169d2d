use Rattle.std.proofs.Common.{false, subst}
use Rattle.std.proofs.lemmas.Result.{IfOk-weaker}
use Rattle.own_model.specs.declared.request.Request.TheVariants.{Run}
use Rattle.state_model.specs.Sound.{IsWellFormed}
use Rattle.state_model.proofs.CreatedSchema.{views_within-created}
use Rattle.readable_model.proofs.Within.{statement_within}
use Rattle.run_model.specs.Run.{Outcome}
use Rattle.run_model.proofs.KeptRuns.{kept-run}
use Rattle.history_model.specs.History.{world}
use Rattle.engine_core.proofs.BoundStatements.{written-as_bound, erases-as_bound, erases-refused, meant-bound, run-bound}
use Rattle.engine_core.proofs.Commits.{tells-alike, tells-writing, tells-refused}
use Rattle.engine_core.proofs.OutsideReplies.{reply-meant_in, reply-refused_in}
use Rattle.engine_core.proofs.outside.answer_by_meaning.Goals as goal

pub bind-requires-clause-views : goal.bind-requires-clause-views
bind-requires-clause-views c = rw (c.schema.ensures.same, c.catalog.ensures.schema) (views_within-created c.args.asker.now.state.now.version c.requires.sound.well_formed.created)

pub bind-requires-clause-statement : goal.bind-requires-clause-statement
bind-requires-clause-statement c = statement_within c.args.statement.now c.requires.written

pub answer_meant-answer-requires-clause-meant : goal.answer_meant-answer-requires-clause-meant
answer_meant-answer-requires-clause-meant c =
    meant-bound c.args.asker.now.state.now.version.schema c.args.statement.now c.in-Ok.bound c.requires.bound (rw (c.schema.ensures.same, c.catalog.ensures.schema) at c.in-Ok.ensures.ok)

pub answer_meant-answer-requires-clause-well_formed : goal.answer_meant-answer-requires-clause-well_formed
answer_meant-answer-requires-clause-well_formed c =
    let db = c.args.asker.now.state.now.version in
    let is = rw (c.schema.ensures.same, c.catalog.ensures.schema) at c.in-Ok.ensures.ok in
    subst (λ (outcome : Outcome). IsWellFormed outcome.db) (run-bound db c.args.statement.now c.in-Ok.bound c.requires.bound is)
    (kept-run db c.requires.sound.well_formed c.args.statement.now c.requires.written)

-- it is answered and runs as what it means
pub returns-in-Ok-clause-tells : goal.returns-in-Ok-clause-tells
returns-in-Ok-clause-tells c =
    let state = c.args.asker.now.state.now in
    let asked = c.args.statement.now in
    let is = rw (c.schema.ensures.same, c.catalog.ensures.schema) at c.in-Ok.ensures.ok in
    rw (run-bound state.version asked c.in-Ok.bound c.requires.bound is)
    (IfOk-weaker c.answer_meant-answer.result _ _ (λ answer tells. tells-alike state.version false _ _ _ answer
    (λ verdict. reply-meant_in state (world c.args.asker.now.state.now.opened c.args.asker.now.history.now) c.requires.stands c.args.asker.now.session.0 verdict asked c.in-Ok.bound c.requires.bound is)
    (tells-writing state.version false answer (written-as_bound state.version _ c.args.asker.now.commits asked c.in-Ok.bound c.requires.bound is) tells))
    c.answer_meant-answer.ensures.tells)

pub returns-in-Ok-clause-erases : goal.returns-in-Ok-clause-erases
returns-in-Ok-clause-erases c =
    let db = c.args.asker.now.state.now.version in
    let is = rw (c.schema.ensures.same, c.catalog.ensures.schema) at c.in-Ok.ensures.ok in
    IfOk-weaker c.answer_meant-answer.result _ _ (λ answer erased. erases-as_bound db c.args.statement.now c.in-Ok.bound answer c.requires.bound is erased)
    c.answer_meant-answer.ensures.erases

-- or why binding refuses it is told
pub returns-in-Err-clause-tells : goal.returns-in-Err-clause-tells
returns-in-Err-clause-tells c =
    let state = c.args.asker.now.state.now in
    let asked = c.args.statement.now in
    IfOk-weaker c.refused.result _ _ (λ answer told.
    let is = rw (c.schema.ensures.same, c.catalog.ensures.schema) at (c.in-Err.ensures.err told.3) in
    tells-refused state.version _ false _ c.in-Err.why answer
    (λ verdict. reply-refused_in state (world c.args.asker.now.state.now.opened c.args.asker.now.history.now) c.requires.stands c.args.asker.now.session.0 verdict asked c.in-Err.why c.requires.bound is)
    told.0 told.1)
    c.refused.ensures

pub returns-in-Err-clause-erases : goal.returns-in-Err-clause-erases
returns-in-Err-clause-erases c =
    IfOk-weaker c.refused.result _ _ (λ answer told. erases-refused c.args.asker.now.state.now.version (Run c.args.statement.now) c.in-Err.why answer told.0 told.2) c.refused.ensures
