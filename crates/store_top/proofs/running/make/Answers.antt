use Rattle.std.proofs.Common.{subst, sym}
use Rattle.outer_world.specs.FaultCount.{CountRose}
use Rattle.store_top.specs.Complete.{IsServedOrRefused}
use Rattle.store_top.proofs.RanMadeLemmas.{complete-made}
use Rattle.store_top.proofs.running.make.Goals as goal

-- what nothing disturbs comes to its end
pub returns-clause-complete : goal.returns-clause-complete
returns-clause-complete g c writes rose whole =
    let W = g.W.Sink in
    let D = g.D.Disk in
    let ended = c.make_large.result in
    let did = c.make_large.ensures in
    subst IsServedOrRefused (sym c.served.ensures.fault)
    (complete-made W.written W.faults W.fails c.args.people c.args.seed c.args.sink.now c.make_large.new.sink ended.history D.holds D.leaves D.moment D.might_have_left D.honest D.faults
    c.args.disk ended.disk ended.opened writes (λ risen. rose (subst (λ disk. CountRose (D.faults c.args.disk) (D.faults disk)) (sym c.served.ensures.disk) risen)) whole ended.fault did.ran did.on_disk)
