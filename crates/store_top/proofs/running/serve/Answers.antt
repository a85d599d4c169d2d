use Rattle.std.proofs.Common.{subst, sym}
use Rattle.outer_world.specs.FaultCount.{CountRose}
use Rattle.store_top.specs.Complete.{IsServedOrRefused}
use Rattle.store_top.proofs.Complete.{complete}
use Rattle.store_top.proofs.running.serve.Goals as goal

-- what nothing disturbs comes to its end
pub returns-clause-complete : goal.returns-clause-complete
returns-clause-complete g c reads writes rose lawful whole =
    let R = g.R.Source in
    let W = g.W.Sink in
    let D = g.D.Disk in
    let ended = c.serve_input.result in
    let did = c.serve_input.ensures in
    subst IsServedOrRefused (sym c.served.ensures.fault)
    (complete R.remaining R.faults R.fails W.faults W.fails D.holds D.leaves D.moment D.might_have_left D.honest D.faults c.args.source.now c.serve_input.new.source c.args.sink.now c.serve_input.new.sink
    c.args.disk ended.disk ended.opened ended.history _ _ _ _ reads writes (λ risen. rose (subst (λ disk. CountRose (D.faults c.args.disk) (D.faults disk)) (sym c.served.ensures.disk) risen)) lawful whole ended.fault did.lawful did.ran
    did.on_disk)
