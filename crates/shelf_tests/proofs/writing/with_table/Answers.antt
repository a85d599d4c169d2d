use Rattle.std.proofs.Common.{ap, subst, ◌∙◌}
use Rattle.annot_schema.specs.Created.{IsAdmitted}
use Rattle.grammar_model.specs.Readable.{IsWritten}
use Rattle.own_model.specs.declared.limit.TheConstants.{STATEMENT_BYTES}
use Rattle.own_model.specs.declared.schema.Schema.{Schema}
use Rattle.own_model.specs.Stored.{holds_rows}
use Rattle.text_model.specs.Canonical.{canonical}
use Rattle.shelf_tests.proofs.Creating.{kept-next}
use Rattle.shelf_tests.proofs.FewColumns.{columns-few}
use Rattle.shelf_tests.proofs.writing.with_table.Goals as goal

pub admit-requires-clause-columns : goal.admit-requires-clause-columns
admit-requires-clause-columns g c = columns-few c.args.create.now (subst (IsWritten STATEMENT_BYTES) c.requires.of c.requires.written)

pub returns : goal.returns
returns g c =
    let db = c.args.version.now in
    let create = c.args.create.now in
    let text = (rw c.expect-text.ensures at c.print_statement.ensures) ∙ ap canonical c.requires.of in
    let admitted = subst (λ (schema : Schema). IsAdmitted schema (holds_rows db.rows) create c.in-Ok.admitted) c.catalog.ensures.schema c.in-Ok.ensures.admitted in
    let written = subst (IsWritten STATEMENT_BYTES) c.requires.of c.requires.written in
    kept-next db c.expect.result create c.in-Ok.admitted c.expect-text.result c.requires.well_formed written admitted text (rw c.expect.ensures at c.prepare_table.ensures)
