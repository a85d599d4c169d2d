use Rattle.std.proofs.Common.{◌∙◌}
use Rattle.state_model.specs.Created.{OfView}
use Rattle.commit_replay.proofs.CreatedSound.{readable-text}
use Rattle.query_model.proofs.ViewFaults.{view-given, view-room}
use Rattle.commit_replay.proofs.CreateFollows.{view-follows, view-heavy, view-made}
use Rattle.commit_replay.proofs.view.follow_bound.Goals as goal

pub prepare_view-requires : goal.prepare_view-requires
prepare_view-requires c =
    let readable = readable-text (OfView c.args.create.now) _ c.requires.text_of in
    record {
      room = view-room c.args.version.now.schema c.args.create.now c.args.definition c.requires.bound;
      bound = record { create = c.args.create.now; most = _; written = readable.written; bound = c.requires.bound };
      well_formed = c.requires.sound.well_formed;
    }

-- the view that is bound is what the next version has more, and it adds what it weighs
pub returns-in_ok-next-in-Weighs : goal.returns-in_ok-next-in-Weighs
returns-in_ok-next-in-Weighs c =
    let db = c.args.version.now in
    view-follows db c.in_ok-next-in-Weighs.next c.args.create.now c.args.text c.args.definition c.args.weighs c.in-Weighs.weighs c.requires.sound c.requires.weighs c.requires.text_of c.requires.bound
    c.in-Weighs.ensures.0 c.in-Weighs.ensures.1
    (c.in_ok-next-in-Weighs.ensures ∙ view-made db c.args.create.now c.args.definition c.args.text (view-given db.schema c.args.create.now c.args.definition c.requires.bound).1 c.requires.text_of)

pub returns-in-Fault : goal.returns-in-Fault
returns-in-Fault c = λ after.
    view-heavy c.args.version.now after c.args.create.now c.args.text c.args.definition c.args.weighs c.requires.sound c.requires.weighs c.requires.text_of c.requires.bound c.in-Fault.ensures.0
