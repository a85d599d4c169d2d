use Rattle.engine_core.proofs.ServedCalls.{serves-stepped, start-stepped}
use Rattle.engine_core.proofs.serves.EngineServes.serve.Goals as goal

pub returns-clause-steps : goal.returns-clause-steps
returns-clause-steps g c =
    let D = g.D.Disk in
    serves-stepped D.holds D.leaves D.moment D.might_have_left D.honest D.faults c.args.self.now c.step_ahead.new.self c.args.session c.args.call c.args.request c.step_ahead.result c.step_ahead.ensures.steps

pub returns-clause-start : goal.returns-clause-start
returns-clause-start g c =
    let D = g.D.Disk in
    start-stepped D.holds D.leaves D.moment D.might_have_left D.honest D.faults c.args.self.now c.step_ahead.new.self c.args.session c.args.call c.args.request c.step_ahead.result c.step_ahead.ensures.steps
