use Rattle.std.proofs.Common.{◌≡◌, ap, subst, sym, ◌∙◌}
use Rattle.std.specs.Prelude.{Some}
use Rattle.annot_schema.specs.Created.{IsAdmitted}
use Rattle.annot_schema.specs.Fault.{refusal_seen}
use Rattle.own_model.specs.declared.schema.Schema.{Schema}
use Rattle.own_model.specs.Stored.{holds_rows}
use Rattle.schema_model.specs.Refusal.{refusal_of}
use Rattle.disk_model.specs.declared.commit.Commit.TheVariants.{CreateTable}
use Rattle.commit_replay.proofs.CreateFollows.{IsTableText, table-follows, table-made, table-refused}
use Rattle.commit_replay.proofs.FewColumns.{few-columns}
use Rattle.commit_replay.proofs.Leading.{leads-none}
use Rattle.commit_replay.proofs.table.follow_table.Goals as goal

pub admit-requires-clause-columns : goal.admit-requires-clause-columns
admit-requires-clause-columns c = few-columns c.args.create.now _ c.requires.text_of

-- the table that is admitted is what the next version has more
pub returns-in_ok-next-in-Ok : goal.returns-in_ok-next-in-Ok
returns-in_ok-next-in-Ok c =
    let db = c.args.version.now in
    let create = c.args.create.now in
    let is = subst (λ (schema : Schema). IsAdmitted schema (holds_rows db.rows) create c.in-Ok.admitted) c.catalog.ensures.schema c.in-Ok.ensures.admitted in
    let text_of = subst (IsTableText create) (sym c.in_ok-text.ensures) c.requires.text_of in
    table-follows db c.in_ok-next-in-Ok.next create c.args.text.now c.args.weighs c.requires.sound c.requires.weighs c.requires.text_of is.unrefused
    (c.in_ok-next-in-Ok.ensures ∙ table-made db create c.in-Ok.admitted.table c.in-Ok.admitted.edges c.in_ok-text.text is.table is.edges text_of)

pub returns-in-Err : goal.returns-in-Err
returns-in-Err c =
    let db = c.args.version.now in
    let create = c.args.create.now in
    leads-none db (CreateTable c.args.text.now) c.refused.result c.refused.ensures (λ memory after.
    let cause = c.in-Err.ensures.refused (λ is. memory (c.into_refusal.ensures ∙ ap refusal_seen is)) in
    table-refused db after create c.args.text.now (refusal_seen c.in-Err.fault) c.requires.text_of
    (subst (λ (schema : Schema). refusal_of schema (holds_rows db.rows) create ≡ Some (refusal_seen c.in-Err.fault)) c.catalog.ensures.schema cause))
