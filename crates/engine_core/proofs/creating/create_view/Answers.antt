use Rattle.std.proofs.Common.{ap, subst, ◌∙◌}
use Rattle.std.proofs.lemmas.Result.{IfOk-weaker}
use Rattle.grammar_model.specs.Readable.{IsWritten}
use Rattle.own_model.specs.declared.limit.TheConstants.{STATEMENT_BYTES}
use Rattle.readable_model.proofs.Within.{view_within}
use Rattle.text_model.specs.Canonical.{canonical}
use Rattle.commit_check.specs.declared.judged.Judged.TheVariants.{Fault}
use Rattle.state_model.proofs.CreatedSchema.{views_within-created}
use Rattle.query_model.proofs.ViewFaults.{view-room}
use Rattle.engine_core.proofs.CreatedTables.{next-view, tells-heavy, tells-unviewed}
use Rattle.engine_core.proofs.JudgedCreates.{judged-view}
use Rattle.engine_core.proofs.RecordedCreates.{tells-view}
use Rattle.engine_core.proofs.creating.create_view.Goals as goal

pub bind_view-requires-clause-views : goal.bind_view-requires-clause-views
bind_view-requires-clause-views c = rw (c.schema.ensures.same, c.catalog.ensures.schema) (views_within-created c.args.version.now c.requires.sound.well_formed.created)

pub bind_view-requires-clause-items : goal.bind_view-requires-clause-items
bind_view-requires-clause-items c = view_within c.args.create.now (subst (IsWritten STATEMENT_BYTES) c.requires.of c.requires.written)

pub prepare_view-requires : goal.prepare_view-requires
prepare_view-requires c =
    let bound = rw (c.schema.ensures.same, c.catalog.ensures.schema) at c.in-Ok.ensures.ok in
    record {
      room = view-room c.args.version.now.schema c.args.create.now c.in-Ok.definition bound;
      bound = record { create = c.args.create.now; most = STATEMENT_BYTES; written = subst (IsWritten STATEMENT_BYTES) c.requires.of c.requires.written; bound = bound };
      well_formed = c.requires.sound.well_formed;
    }

pub returns-in-Err-clause-tells : goal.returns-in-Err-clause-tells
returns-in-Err-clause-tells c =
    IfOk-weaker c.refused.result _ _ (λ answer is.
    tells-unviewed c.args.version.now c.args.create.now c.in-Err.why answer (rw (c.schema.ensures.same, c.catalog.ensures.schema) at (c.in-Err.ensures.err is.3)) is.0 is.1)
    c.refused.ensures

-- the view that is bound is what the next version has more, and its text is what is recorded
pub returns-in_ok-next-in-Weighs-clause-tells : goal.returns-in_ok-next-in-Weighs-clause-tells
returns-in_ok-next-in-Weighs-clause-tells c =
    let db = c.args.version.now in
    let create = c.args.create.now in
    let next = c.in_ok-next-in-Weighs.next in
    let text = c.in-Ok-print_statement.text in
    let text_is = c.in-Ok-print_statement.ensures ∙ ap canonical c.requires.of in
    let bound = rw (c.schema.ensures.same, c.catalog.ensures.schema) at c.in-Ok.ensures.ok in
    let next_is = next-view db next create c.in-Ok.definition text bound text_is c.in_ok-next-in-Weighs.ensures in
    let written = subst (IsWritten STATEMENT_BYTES) c.requires.of c.requires.written in
    let weighed = c.in-Weighs.ensures in
    IfOk-weaker c.recorded.result _ _ (λ answer is.
    tells-view c.canonical_text_reads_back.ensures db next create c.in-Ok.definition text c.args.weighs c.in-Weighs.sum c.record_of_create-framed.result answer c.requires.sound c.requires.weighs written bound
    weighed.0 weighed.1 text_is next_is c.record_of_create-framed.ensures is)
    c.recorded.ensures.told

-- one that weighs too much leads nowhere
pub returns-in-Fault-clause-tells : goal.returns-in-Fault-clause-tells
returns-in-Fault-clause-tells c =
    let db = c.args.version.now in
    let create = c.args.create.now in
    let bound = rw (c.schema.ensures.same, c.catalog.ensures.schema) at c.in-Ok.ensures.ok in
    let heavy = judged-view db create c.in-Ok.definition c.args.weighs (Fault c.in-Fault.why) c.requires.sound c.requires.weighs bound c.in-Fault.ensures in
    tells-heavy db create c.in-Ok.definition c.in-Fault.why c.told.result bound heavy c.told.ensures.reply c.told.ensures.stays
