use Rattle.readable_model.proofs.Within.{written_view_within}
use Rattle.state_model.specs.Created.{OfView}
use Rattle.state_model.proofs.CreatedSchema.{views_within-created}
use Rattle.disk_model.specs.declared.commit.Commit.TheVariants.{CreateView}
use Rattle.commit_replay.proofs.CreatedSound.{readable-text}
use Rattle.commit_replay.proofs.CreateFollows.{view-refused}
use Rattle.commit_replay.proofs.Leading.{leads-none}
use Rattle.commit_replay.proofs.view.follow_view.Goals as goal

pub bind_view-requires-clause-views : goal.bind_view-requires-clause-views
bind_view-requires-clause-views c = rw (c.schema.ensures.same, c.catalog.ensures.schema) (views_within-created c.args.version.now c.requires.sound.well_formed.created)

pub bind_view-requires-clause-items : goal.bind_view-requires-clause-items
bind_view-requires-clause-items c = written_view_within _ c.args.create.now (readable-text (OfView c.args.create.now) _ c.requires.text_of).written

pub returns-in-Err : goal.returns-in-Err
returns-in-Err c =
    leads-none c.args.version.now (CreateView c.args.text.now) c.refused.result c.refused.ensures (λ memory after.
    view-refused c.args.version.now after c.args.create.now c.args.text.now c.in-Err.why c.requires.text_of (rw (c.schema.ensures.same, c.catalog.ensures.schema) at (c.in-Err.ensures.err memory)))
