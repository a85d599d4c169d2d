use Rattle.readable_model.proofs.Within.{statement_within}
use Rattle.run_model.proofs.KeptRuns.{kept-run_bound}
use Rattle.state_model.proofs.CreatedSchema.{views_within-created, within-created}
use Rattle.write_eval.proofs.BoundWrites.{bound_write}
use Rattle.shelf_tests.proofs.writing.meant.Goals as goal

pub bind-requires-clause-tables : goal.bind-requires-clause-tables
bind-requires-clause-tables g c = rw c.schema.ensures (within-created c.args.version.now c.requires.well_formed.created)

pub bind-requires-clause-views : goal.bind-requires-clause-views
bind-requires-clause-views g c = rw c.schema.ensures (views_within-created c.args.version.now c.requires.well_formed.created)

pub bind-requires-clause-statement : goal.bind-requires-clause-statement
bind-requires-clause-statement g c = statement_within c.args.statement.now c.requires.written

pub returns-clause-write : goal.returns-clause-write
returns-clause-write g c =
    bound_write c.args.version.now.schema c.args.statement.now c.in-Ok.bound (rw c.schema.ensures at c.in-Ok.ensures.ok) c.if-not-changes_rows.ensures

pub returns-clause-left : goal.returns-clause-left
returns-clause-left g c =
    kept-run_bound c.args.version.now c.requires.well_formed c.args.statement.now c.in-Ok.bound c.requires.written (rw c.schema.ensures at c.in-Ok.ensures.ok)
