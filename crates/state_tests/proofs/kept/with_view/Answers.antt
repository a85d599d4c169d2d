use Rattle.std.proofs.Common.{ap, subst, ◌∙◌}
use Rattle.grammar_model.specs.Readable.{IsWritten}
use Rattle.own_model.specs.declared.limit.TheConstants.{STATEMENT_BYTES}
use Rattle.readable_model.proofs.Within.{view_within}
use Rattle.text_model.specs.Canonical.{canonical}
use Rattle.state_model.proofs.CreatedSchema.{views_within-created}
use Rattle.query_model.proofs.ViewFaults.{view-room}
use Rattle.engine_core.proofs.CreatedTables.{made-view, next-view}
use Rattle.state_tests.proofs.KeptNext.{kept-view}
use Rattle.state_tests.proofs.kept.with_view.Goals as goal

pub bind_view-requires-clause-views : goal.bind_view-requires-clause-views
bind_view-requires-clause-views g c = rw (c.schema.ensures.same, c.catalog.ensures.schema) (views_within-created c.args.version.now c.requires.well_formed.created)

pub bind_view-requires-clause-items : goal.bind_view-requires-clause-items
bind_view-requires-clause-items g c = view_within c.args.create.now (subst (IsWritten STATEMENT_BYTES) c.requires.of c.requires.written)

pub prepare_view-requires : goal.prepare_view-requires
prepare_view-requires g c =
    let bound = rw (c.schema.ensures.same, c.catalog.ensures.schema) at c.in-Ok.ensures.ok in
    record {
      room = view-room c.args.version.now.schema c.args.create.now c.in-Ok.definition bound;
      bound = record { create = c.args.create.now; most = STATEMENT_BYTES; written = subst (IsWritten STATEMENT_BYTES) c.requires.of c.requires.written; bound = bound };
      well_formed = c.requires.well_formed;
    }

pub returns : goal.returns
returns g c =
    let db = c.args.version.now in
    let create = c.args.create.now in
    let text = (rw c.expect-text.ensures at c.print_statement.ensures) ∙ ap canonical c.requires.of in
    let is = rw (c.schema.ensures.same, c.catalog.ensures.schema) at c.in-Ok.ensures.ok in
    let next = next-view db c.expect.result create c.in-Ok.definition c.expect-text.result is text (rw c.expect.ensures at c.prepare_view.ensures) in
    let made = made-view db c.expect.result create c.in-Ok.definition is next in
    kept-view db c.expect.result create c.requires.well_formed (subst (IsWritten STATEMENT_BYTES) c.requires.of c.requires.written) made
