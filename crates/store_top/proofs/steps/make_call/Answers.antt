use Rattle.std.proofs.Common.{sym}
use Rattle.store_top.proofs.Calls.{fails-unmade, moves-made, moves-unmade}
use Rattle.store_top.proofs.steps.make_call.Goals as goal

pub returns-in-Ok-clause-moves : goal.returns-in-Ok-clause-moves
returns-in-Ok-clause-moves g c =
    let D = g.D.Disk in
    let by = c.in-Ok.ensures.answers in
    moves-made D.holds D.leaves D.moment D.might_have_left D.honest D.faults c.args.engine.now c.answer.new.self _ by.0 _ _ by.1 by.2

pub returns-in-Err-clause-failed : goal.returns-in-Err-clause-failed
returns-in-Err-clause-failed g c = sym (fails-unmade c.args.engine.now c.answer.new.self _ c.in-Err.ensures.answers)

pub returns-in-Err-clause-moves : goal.returns-in-Err-clause-moves
returns-in-Err-clause-moves g c =
    let D = g.D.Disk in
    moves-unmade D.holds D.leaves D.moment D.might_have_left D.honest D.faults c.args.engine.now c.answer.new.self _ c.in-Err.ensures.answers
