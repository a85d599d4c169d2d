use Rattle.std.proofs.Common.{◌≡◌, ◌∙◌, ap}
use Rattle.subject_model.specs.Forget.{forget}
use Rattle.state_model.specs.Put.{put}
use Rattle.commit_replay.proofs.Erased.{erased-sound}
use Rattle.commit_replay.proofs.erasure.follow_forget.Goals as goal

-- what the changes leave is sound
pub left_by-requires-clause-sound_next : goal.left_by-requires-clause-sound_next
left_by-requires-clause-sound_next c =
    let db = c.args.version.now in
    let lawful = c.is_lawful_forget.ensures.0 c.if-not-is_lawful_forget.false in
    let is : put db c.items.result.now ≡ forget db c.args.name.now = ap (put db) c.items.ensures ∙ c.in_ok-changes.ensures.forgets in
    erased-sound db (put db c.items.result.now) c.args.name.now lawful.subject c.requires.sound is
