use Rattle.state_model.proofs.CreatedSchema.{owner_schema-created}
use Rattle.shelf_tests.proofs.looks.looked.Goals as goal

pub with_moves-kept-requires : goal.with_moves-kept-requires
with_moves-kept-requires g c = owner_schema-created c.args.version.now c.requires.created
