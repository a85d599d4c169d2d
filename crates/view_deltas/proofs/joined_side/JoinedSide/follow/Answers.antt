use Rattle.std.proofs.lemmas.Result.{on_ok_weaker}
use Rattle.view_deltas.specs.Joined.{named}
use Rattle.view_deltas.proofs.JoinLemmas.{side_moves}
use Rattle.view_deltas.proofs.joined_side.JoinedSide.follow.Goals as goal

pub returns : goal.returns
returns g c =
    on_ok_weaker c.move_key.result
    (λ moves own other others stored keeps among.
    side_moves other c.args.query.now c.args.on others c.args.partners.now stored keeps own (named (g.V.StoreView.db c.args.view.now) c.args.on.other)
    c.args.change.now.name.key c.args.change.now.before c.args.change.now.after c.in_ok-held_before.held_before c.in_ok-held_after.held_after c.args.self.now
    (record { entries = c.put_meeting-2.new.self; keys = c.move_key.new.pairs }) c.put_meeting.new.self c.in_ok-held_before.ensures c.in_ok-held_after.ensures among c.in_ok-put_meeting.ensures c.in_ok-put_meeting-2.ensures moves)
    c.move_key.ensures
