use Rattle.std.proofs.Common.{◌≡◌, ap, subst, ◌∙◌}
use Rattle.std.specs.Prelude.{Some}
use Rattle.std.proofs.lemmas.Result.{IfOk-weaker}
use Rattle.annot_schema.specs.Created.{IsAdmitted}
use Rattle.annot_schema.specs.Fault.{refusal_seen}
use Rattle.grammar_model.specs.Readable.{IsWritten}
use Rattle.own_model.specs.declared.limit.TheConstants.{STATEMENT_BYTES}
use Rattle.own_model.specs.declared.reply.Reply.TheVariants.{Refused}
use Rattle.own_model.specs.declared.schema.Schema.{Schema}
use Rattle.own_model.specs.Stored.{holds_rows}
use Rattle.schema_model.specs.Refusal.{refusal_of}
use Rattle.text_model.specs.Canonical.{canonical}
use Rattle.engine_core.proofs.CreatedTables.{next-table, tells-uncreated}
use Rattle.engine_core.proofs.FewColumns.{columns-few}
use Rattle.engine_core.proofs.RecordedCreates.{tells-table}
use Rattle.engine_core.proofs.creating.create_table.Goals as goal

pub admit-requires-clause-columns : goal.admit-requires-clause-columns
admit-requires-clause-columns c = columns-few c.args.create.now (subst (IsWritten STATEMENT_BYTES) c.requires.of c.requires.written)

pub returns-in-Err-clause-tells : goal.returns-in-Err-clause-tells
returns-in-Err-clause-tells c =
    let db = c.args.version.now in
    let create = c.args.create.now in
    IfOk-weaker c.refused.result _ _ (λ answer told.
    let cause = c.in-Err.ensures.refused (λ memory. told.3 (c.into_refusal.ensures ∙ ap refusal_seen memory)) in
    let is = subst (λ (schema : Schema). refusal_of schema (holds_rows db.rows) create ≡ Some (refusal_seen c.in-Err.fault)) c.catalog.ensures.schema cause in
    tells-uncreated db create (refusal_seen c.in-Err.fault) answer is (told.0 ∙ ap (λ why. Refused why) c.into_refusal.ensures) told.1)
    c.refused.ensures

-- the table that is admitted is what the next version has more, and its text is what is recorded
pub returns-in_ok-next-in-Ok-print_statement-clause-tells : goal.returns-in_ok-next-in-Ok-print_statement-clause-tells
returns-in_ok-next-in-Ok-print_statement-clause-tells c =
    let db = c.args.version.now in
    let create = c.args.create.now in
    let next = c.in_ok-next-in-Ok-print_statement.next in
    let text = c.in-Ok-print_statement.text in
    let text_is = c.in-Ok-print_statement.ensures ∙ ap canonical c.requires.of in
    let admitted = subst (λ (schema : Schema). IsAdmitted schema (holds_rows db.rows) create c.in-Ok.admitted) c.catalog.ensures.schema c.in-Ok.ensures.admitted in
    let next_is = next-table db next create c.in-Ok.admitted text admitted text_is c.in_ok-next-in-Ok-print_statement.ensures in
    let written = subst (IsWritten STATEMENT_BYTES) c.requires.of c.requires.written in
    IfOk-weaker c.recorded.result _ _ (λ answer is.
    tells-table c.canonical_text_reads_back.ensures db next create text c.args.weighs c.record_of_create-framed.result answer c.requires.sound c.requires.weighs written admitted.unrefused text_is next_is
    c.record_of_create-framed.ensures is)
    c.recorded.ensures.told
