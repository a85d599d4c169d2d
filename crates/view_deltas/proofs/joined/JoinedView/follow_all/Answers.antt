use Rattle.std.proofs.Common.{refl}
use Rattle.view_deltas.proofs.TurnLemmas.{join_moves}
use Rattle.view_deltas.proofs.joined.JoinedView.follow_all.Goals as goal

pub returns : goal.returns
returns g c =
    join_moves c.args.query.now c.args.on c.turned-there.result (g.V.StoreView.db c.args.before.now) (g.N.StoreView.db c.args.after.now) c.args.lefts.now c.args.rights.now c.args.self.now
    (record { entries = c.in_ok-right.right.entries; lefts = c.in_ok-left.left.keys; rights = c.in_ok-right.right.keys })
    (record { entries = c.in_ok-entries.entries; keys = c.in_ok-keys.keys }) c.in_ok-left.left (record { entries = c.in_ok-left.left.entries; keys = c.in_ok-partners.partners }) c.in_ok-right.right
    c.in_ok-entries.ensures c.in_ok-keys.ensures c.turned-there.ensures c.in_ok-left.ensures c.in_ok-right.ensures refl c.in_ok-partners.ensures refl refl refl
