use Rattle.state_model.proofs.CreatedSchema.{views_within-created}
use Rattle.readable_model.proofs.Within.{statement_within}
use Rattle.engine_core.proofs.looking.look.Goals as goal

pub bind-requires-clause-views : goal.bind-requires-clause-views
bind-requires-clause-views c = rw (c.schema.ensures.same, c.catalog.ensures.schema) (views_within-created c.args.version.now c.requires.sound.well_formed.created)

pub bind-requires-clause-statement : goal.bind-requires-clause-statement
bind-requires-clause-statement c = statement_within c.args.statement.now c.requires.written

pub shown_of-requires-clause-well_formed : goal.shown_of-requires-clause-well_formed
shown_of-requires-clause-well_formed c = c.requires.sound.well_formed
