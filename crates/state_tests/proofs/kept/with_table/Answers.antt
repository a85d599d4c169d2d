use Rattle.std.proofs.Common.{ap, subst, ◌∙◌}
use Rattle.annot_schema.specs.Created.{IsAdmitted}
use Rattle.grammar_model.specs.Readable.{IsWritten}
use Rattle.own_model.specs.declared.limit.TheConstants.{STATEMENT_BYTES}
use Rattle.own_model.specs.declared.schema.Schema.{Schema}
use Rattle.own_model.specs.Stored.{holds_rows}
use Rattle.text_model.specs.Canonical.{canonical}
use Rattle.engine_core.proofs.CreatedTables.{made-table, next-table}
use Rattle.state_tests.proofs.KeptNext.{kept-table}
use Rattle.engine_core.proofs.FewColumns.{columns-few}
use Rattle.state_tests.proofs.kept.with_table.Goals as goal

pub admit-requires-clause-columns : goal.admit-requires-clause-columns
admit-requires-clause-columns g c = columns-few c.args.create.now (subst (IsWritten STATEMENT_BYTES) c.requires.of c.requires.written)

pub returns : goal.returns
returns g c =
    let db = c.args.version.now in
    let create = c.args.create.now in
    let text = (rw c.expect-text.ensures at c.print_statement.ensures) ∙ ap canonical c.requires.of in
    let admitted = subst (λ (schema : Schema). IsAdmitted schema (holds_rows db.rows) create c.in-Ok.admitted) c.catalog.ensures.schema c.in-Ok.ensures.admitted in
    let next = next-table db c.expect.result create c.in-Ok.admitted c.expect-text.result admitted text (rw c.expect.ensures at c.prepare_table.ensures) in
    let made = made-table db c.expect.result create admitted.unrefused next in
    kept-table db c.expect.result create c.requires.well_formed (subst (IsWritten STATEMENT_BYTES) c.requires.of c.requires.written) made
