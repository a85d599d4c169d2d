use Rattle.state_model.proofs.CreatedSchema.{owner_schema-created, within-created}
use Rattle.commit_replay.proofs.Told.{net-told, ordered-told}
use Rattle.std.proofs.Common.{[], ◌∷◌}
use Rattle.commit_replay.proofs.making.judged_alone.Goals as goal

-- a change alone is the net of what it leads to
pub judge_alone-requires : goal.judge_alone-requires
judge_alone-requires c =
    let db = c.args.version.now in
    record {
      limits = within-created db c.requires.sound.well_formed.created;
      owner = owner_schema-created db c.requires.sound.well_formed.created;
      faultless = c.requires.sound.faultless;
      weight = c.requires.weighs;
      net = net-told db c.requires.sound c.args.change.now c.requires.told;
      ordered = ordered-told db c.requires.sound (c.args.change.now ∷ []) c.requires.told;
    }
