use Rattle.shell_session.proofs.CalledLemmas.{called-made, called-unmade}
use Rattle.shell_session.proofs.answering.make_call.Goals as goal

-- it was made, or it wasn't
pub returns-in-Ok : goal.returns-in-Ok
returns-in-Ok g c =
    let D = g.D.Disk in
    let answers = c.in-Ok.ensures.answers in
    record {
      called = called-made D.leaves D.moment D.might_have_left D.honest D.faults g.met.D.Disk.only_now D.holds c.args.engine.now c.answer.new.self c.args.call answers.0 c.in-Ok.place.0 c.in-Ok.reply answers.1 answers.2
          c.answer.ensures.left;
    }

pub returns-in-Err : goal.returns-in-Err
returns-in-Err g c =
    let D = g.D.Disk in
    record { called = called-unmade D.leaves D.moment D.might_have_left D.honest D.faults g.met.D.Disk.only_now c.args.engine.now c.answer.new.self c.args.call c.in-Err.ensures.answers c.answer.ensures.left }
