use Rattle.own_model.specs.Db.{Db}
use Rattle.engine_core.specs.Seen.{disk_of}
use Rattle.store_top.specs.OnDisk.{IsServedOn}
use Rattle.store_top.proofs.OnDiskLemmas.{on_disk-served_as, on_disk-unopened, served-on}
use Rattle.store_top.proofs.serving.serve_script.Goals as goal

-- no store was opened
pub returns-in-Err-clause-on_disk : goal.returns-in-Err-clause-on_disk
returns-in-Err-clause-on_disk g c =
    let D = g.D.Disk in
    let opening = c.in-Err.ensures in
    rw (c.without_calls.ensures.fault, c.without_calls.ensures.disk, c.unopened.ensures) (on_disk-unopened D.holds D.leaves D.moment D.might_have_left D.honest D.faults c.args.disk _
    c.without_calls.result.opened c.without_calls.result.history _ _ c.without_calls.ensures.opened opening.damaged opening.kept_a opening.kept_b opening.fault opening.steady_err opening.risen
    opening.honesty_err opening.time_err opening.moments_err)

-- calls were served
pub returns-in-Ok-clause-on_disk : goal.returns-in-Ok-clause-on_disk
returns-in-Ok-clause-on_disk g c =
    let D = g.D.Disk in
    let sink = g.W.Sink in
    let opened = c.in-Ok.ensures in
    let served = c.serve_engine.ensures in
    let mid = disk_of c.in-Ok.engine in
    let base = c.in-Ok.engine.base in
    let start = c.in-Ok.engine.start in
    let new = c.serve_engine.result.disk in
    let history = c.serve_engine.result.history in
    let Served : Db → Type 0 = λ base. IsServedOn D.holds D.leaves D.moment D.might_have_left c.args.disk new base history in
    on_disk-served_as D.holds D.leaves D.moment D.might_have_left D.honest D.faults c.args.disk new
    c.serve_engine.result.opened history Served mid base start served.opened opened.base opened.honesty opened.time opened.steady served.moves served.left
    c.in-Ok.engine.area c.in-Ok.engine.journal opened.start served.exact served.alone
    (served-on D.holds D.leaves D.moment D.might_have_left D.honest D.faults c.args.disk new c.serve_engine.result.opened history Served mid base start served.opened
    opened.base opened.honesty opened.time opened.steady served.moves served.left c.in-Ok.engine.area c.in-Ok.engine.journal opened.start served.exact served.alone g.met.D.Disk.only_now opened.moments)
    c.args.telling c.args.calls.items (sink.written c.args.sink.now) (sink.written c.serve_engine.new.sink) _ c.serve_engine.result.fault served.served
