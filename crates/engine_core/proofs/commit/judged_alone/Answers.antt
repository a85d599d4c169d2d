use Rattle.state_model.proofs.CreatedSchema.{owner_schema-created, within-created}
use Rattle.engine_core.proofs.commit.judged_alone.Goals as goal

-- the state before is sound, and the one behind the change is in key order
pub judge_alone-requires : goal.judge_alone-requires
judge_alone-requires c =
    let db = c.args.version.now in
    record {
      limits = within-created db c.requires.sound.well_formed.created;
      owner = owner_schema-created db c.requires.sound.well_formed.created;
      faultless = c.requires.sound.faultless;
      weight = c.requires.weighs;
      net = c.requires.net;
      ordered = c.requires.well_formed.ordered;
    }
