use Rattle.std.proofs.Common.{true}
use Rattle.std.proofs.lemmas.Result.{IfOk-weaker}
use Rattle.own_model.specs.declared.refusal.Refusal.TheVariants.{Busy}
use Rattle.own_model.specs.declared.request.Request.TheVariants.{Run}
use Rattle.history_model.specs.History.{world}
use Rattle.engine_core.proofs.BoundStatements.{erases-nobody}
use Rattle.engine_core.proofs.Commits.{tells-alike, tells-refused}
use Rattle.engine_core.proofs.OutsideReplies.{nobody-create, reply-busy, reply-create}
use Rattle.engine_core.proofs.outside.answer_to_create.Goals as goal

-- another session is in a transaction
pub returns-in-Some-clause-tells : goal.returns-in-Some-clause-tells
returns-in-Some-clause-tells c =
    let state = c.args.asker.now.state.now in
    tells-refused state.version _ true _ (Busy c.in-Some.other) c.told.result
    (λ verdict. reply-busy state (world c.args.asker.now.state.now.opened c.args.asker.now.history.now) c.requires.stands c.args.asker.now.session.0 verdict c.args.statement.now c.requires.create c.in-Some.other c.lowest_other.result c.in-Some.is c.lowest_other.ensures)
    c.told.ensures.reply c.told.ensures.stays

pub returns-in-Some-clause-erases : goal.returns-in-Some-clause-erases
returns-in-Some-clause-erases c =
    erases-nobody c.args.asker.now.state.now.version (Run c.args.statement.now) c.told.result (nobody-create c.args.asker.now.state.now.version.schema c.args.statement.now c.requires.create) c.told.ensures.nothing

-- none is
pub returns-in-None-clause-tells : goal.returns-in-None-clause-tells
returns-in-None-clause-tells c =
    let state = c.args.asker.now.state.now in
    IfOk-weaker c.create.result _ _ (λ answer tells. tells-alike state.version true _ _ _ answer
    (λ verdict. reply-create state (world c.args.asker.now.state.now.opened c.args.asker.now.history.now) c.requires.stands c.args.asker.now.session.0 verdict c.args.statement.now c.requires.create c.lowest_other.result c.in-None.is c.lowest_other.ensures) (tells c.args.asker.now.commits))
    c.create.ensures.tells

pub returns-in-None-clause-erases : goal.returns-in-None-clause-erases
returns-in-None-clause-erases c =
    IfOk-weaker c.create.result _ _
    (λ answer none. erases-nobody c.args.asker.now.state.now.version (Run c.args.statement.now) answer (nobody-create c.args.asker.now.state.now.version.schema c.args.statement.now c.requires.create) none)
    c.create.ensures.nothing
