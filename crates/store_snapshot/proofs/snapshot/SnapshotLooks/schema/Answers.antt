use Rattle.state_model.proofs.CreatedSchema.{views_within-created, within-created}
use Rattle.store_snapshot.proofs.snapshot.SnapshotLooks.schema.Goals as goal

-- the schema of a well-formed database is within the limits of binding
pub returns-clause-tables : goal.returns-clause-tables
returns-clause-tables c = rw (c.schema.ensures, c.version.ensures.same) (within-created c.args.self.now c.version.ensures.well_formed.created)

pub returns-clause-views : goal.returns-clause-views
returns-clause-views c = rw (c.schema.ensures, c.version.ensures.same) (views_within-created c.args.self.now c.version.ensures.well_formed.created)
