use Rattle.std.proofs.Common.{◌≡◌, Ok, subst, sym}
use Rattle.own_model.specs.declared.schema.Schema.{Schema}
use Rattle.query_model.specs.BoundStatement.{bound_statement}
use Rattle.readable_model.proofs.Within.{statement_within}
use Rattle.state_model.proofs.CreatedSchema.{views_within-created}
use Rattle.run_model.proofs.KeptRuns.{kept-run_bound}
use Rattle.state_tests.proofs.BoundStatements.{meant-bound}
use Rattle.state_tests.proofs.kept.bound.Goals as goal

pub bind-requires-clause-views : goal.bind-requires-clause-views
bind-requires-clause-views g c = rw (c.schema.ensures.same, c.catalog.ensures.schema) (views_within-created c.args.version.now c.requires.well_formed.created)

pub bind-requires-clause-statement : goal.bind-requires-clause-statement
bind-requires-clause-statement g c = statement_within c.args.statement.now c.requires.written

pub returns-clause-meant : goal.returns-clause-meant
returns-clause-meant g c =
    meant-bound c.args.version.now.schema c.args.statement.now c.in-Ok.bound c.if-not-is_bound.ensures (rw (c.schema.ensures.same, c.catalog.ensures.schema) at c.in-Ok.ensures.ok)

-- over any database of this schema
pub returns-clause-well_formed : goal.returns-clause-well_formed
returns-clause-well_formed g c = λ db kept same.
    let is = rw (c.schema.ensures.same, c.catalog.ensures.schema) at c.in-Ok.ensures.ok in
    kept-run_bound db kept c.args.statement.now c.in-Ok.bound c.requires.written
    (subst (λ (schema : Schema). bound_statement schema c.args.statement.now ≡ Ok c.in-Ok.bound) (sym same) is)
