use Rattle.std.proofs.Common.{sym, subst, option_map, refl, ◌∙◌, ap}
use Rattle.std.specs.Prelude.{◌||◌, None, false, if◌then◌else◌, is_some}
use Rattle.own_model.specs.declared.reply.Reply.TheVariants.{Done}
use Rattle.history_model.specs.History.{is_disk, is_failure}
use Rattle.shell_session.specs.DiskView.{view_of}
use Rattle.shell_session.specs.Kept.{effect_by, marked}
use Rattle.shell_session.specs.Opening.{opening_of}
use Rattle.shell_session.proofs.CalledLemmas.{checkpoint-plain, laid-done, marks-left, noted-call}
use Rattle.shell_session.proofs.PieceLemmas.{silent-laid}
use Rattle.shell_session.proofs.opening.lay_anew.Goals as goal

pub returns : goal.returns
returns g c = let view = view_of g.D.Disk.leaves g.D.Disk.moment g.D.Disk.might_have_left g.D.Disk.honest g.D.Disk.faults in
    let answer = c.make_call-answer.result in
    let call = c.in-Ok-Some.read.call in
    let is = sym c.if-not-is_checkpoint.ensures in
    let before = opening_of c.args.opened.now.engine in
    let after = opening_of c.make_call-answer.new.engine in
    let place = option_map (λ place. place.0) answer.place in
    let old = c.args.opened.now.book in
    record {
      silent = silent-laid view before after call place answer.reply c.make_call-answer.ensures.called is;
      keeps = noted-call view before after call answer.place answer.reply old c.note.new.self c.effect_of-effect.result
          (rw c.in-Ok-Some.field-0-is at c.in-Ok-Some.ensures.plain).1 c.make_call-answer.ensures.called c.requires c.effect_of-effect.ensures c.note.ensures.marks c.note.ensures.failed
          (c.note.ensures.tables ∙ ap (λ creates. if creates then None else old.tables) (sym (checkpoint-plain call.request is)));
      done = λ done works. c.note.ensures.failed ∙ (ap (λ was. was || is_disk answer.reply) works ∙ ap is_disk (c.is_done-done.ensures done));
      laid = λ done. laid-done view before after call place answer.reply c.make_call-answer.ensures.called is (c.is_done-done.ensures done);
      marks = λ done. c.note.ensures.marks
          ∙ (ap (λ told. if is_some answer.place then (if is_failure told then old.marks else marked old.marks call.session.0 (effect_by c.effect_of-effect.result told)) else old.marks) (c.is_done-done.ensures done)
          ∙ marks-left old.marks call.session.0 c.effect_of-effect.result call.request (is_some answer.place) (is_failure Done) c.effect_of-effect.ensures is);
    }
