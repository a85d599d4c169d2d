use Rattle.std.proofs.Common.{◌-◌, ◌≤◌, arith, length}
use Rattle.micro_db.specs.Renewed.{IsMoveAt}
use Rattle.micro_db.proofs.RenewLemmas.{renews-before, renews-first, renews-last}
use Rattle.micro_db.proofs.micro.MicroDb.renew_moved.Goals as goal

pub loop-left-init : goal.loop-left-init
loop-left-init g c =
    let all : length c.args.moves.now ≤ length c.args.moves.now = omega arith in
    (all, renews-last (g.N.StoreView.db c.args.after.now) IsMoveAt c.args.moves.now c.args.self.now)

pub loop-left-preserved : goal.loop-left-preserved
loop-left-preserved g c =
    let fewer : c.loop-left.left - 1 ≤ length c.args.moves.now = omega (arith, c.loop-left.invariant.0) in (
      fewer,
      renews-before (g.N.StoreView.db c.args.after.now) IsMoveAt c.args.moves.now c.loop-left.left c.index-moves-left.result c.args.self.now c.loop-left.self c.renew.new.self
          c.loop-left-test.true c.loop-left.invariant.0 c.index-moves-left.is c.loop-left.invariant.1 c.in_ok-renew.ensures,
    )

pub returns : goal.returns
returns g c = renews-first (g.N.StoreView.db c.args.after.now) IsMoveAt c.args.moves.now c.loop-left.left c.args.self.now c.loop-left.self c.loop-left-test.false c.loop-left.invariant.1
