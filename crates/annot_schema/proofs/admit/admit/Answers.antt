use Rattle.annot_schema.proofs.SoundSchemas.{edges-room}
use Rattle.annot_schema.proofs.admit.admit.Goals as goal

-- a sound schema leaves room for the new edges
pub new_edges-requires-clause-room : goal.new_edges-requires-clause-room
new_edges-requires-clause-room g c =
    rw c.in_ok-draft.ensures (edges-room c.args.schema.now c.args.create.now c.requires.sound c.requires.columns)
