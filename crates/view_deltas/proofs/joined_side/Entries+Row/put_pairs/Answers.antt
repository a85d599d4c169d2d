use Rattle.view_deltas.specs.Joined.{named}
use Rattle.view_deltas.specs.Sides.{shown_both}
use Rattle.view_deltas.proofs.PairLemmas.{all_put, none_put, put_next}
use Rattle.view_deltas.proofs.joined_side.Entries+Row.put_pairs.Goals as goal

pub loop-other-init : goal.loop-other-init
loop-other-init g c = none_put c.args.on.side c.args.key.now (λ other. shown_both c.args.query.now c.args.on.side c.args.row.now (named (g.V.StoreView.db c.args.view.now) c.args.on.other other)) c.args.self.now

pub loop-other-preserved : goal.loop-other-preserved
loop-other-preserved g c =
    put_next c.args.on.side c.args.key.now (λ other. shown_both c.args.query.now c.args.on.side c.args.row.now (named (g.V.StoreView.db c.args.view.now) c.args.on.other other))
    c.args.others.now c.loop-other.other-index c.other-item.result c.args.self.now c.loop-other.self c.put_pair.new.self c.loop-other-test.true c.other-item.is c.loop-other.invariant c.in_ok-put_pair.ensures

pub returns : goal.returns
returns g c =
    all_put c.args.on.side c.args.key.now (λ other. shown_both c.args.query.now c.args.on.side c.args.row.now (named (g.V.StoreView.db c.args.view.now) c.args.on.other other))
    c.args.others.now c.loop-other.other-index c.args.self.now c.loop-other.self c.loop-other-test.false c.loop-other.invariant
