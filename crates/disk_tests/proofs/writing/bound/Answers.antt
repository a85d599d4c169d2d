use Rattle.readable_model.proofs.Within.{statement_within}
use Rattle.state_model.proofs.CreatedSchema.{views_within-created}
use Rattle.run_model.proofs.KeptRuns.{kept-run_bound}
use Rattle.disk_tests.proofs.RowWrites.{write-bound}
use Rattle.disk_tests.proofs.writing.bound.Goals as goal

pub bind-requires-clause-views : goal.bind-requires-clause-views
bind-requires-clause-views g c = rw (c.schema.ensures.same, c.catalog.ensures.schema) (views_within-created c.args.version.now c.requires.well_formed.created)

pub bind-requires-clause-statement : goal.bind-requires-clause-statement
bind-requires-clause-statement g c = statement_within c.args.statement.now c.requires.written

pub returns-clause-write : goal.returns-clause-write
returns-clause-write g c =
    write-bound c.args.version.now.schema c.args.statement.now c.in-Ok.bound c.if-not-is_write.ensures (rw (c.schema.ensures.same, c.catalog.ensures.schema) at c.in-Ok.ensures.ok)

pub returns-clause-well_formed : goal.returns-clause-well_formed
returns-clause-well_formed g c =
    kept-run_bound c.args.version.now c.requires.well_formed c.args.statement.now c.in-Ok.bound c.requires.written
    (rw (c.schema.ensures.same, c.catalog.ensures.schema) at c.in-Ok.ensures.ok)
