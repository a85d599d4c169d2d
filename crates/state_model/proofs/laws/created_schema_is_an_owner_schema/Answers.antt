use Rattle.state_model.proofs.CreatedSchema.{owner_schema-created, views_within-created, within-created}
use Rattle.state_model.proofs.laws.created_schema_is_an_owner_schema.Goals as goal

pub returns : goal.returns
returns c = record { owner = owner_schema-created; within = within-created; views = views_within-created }
