use Rattle.std.proofs.Common.{refl, sym, ap, ◌∙◌, option_map, subst}
use Rattle.std.specs.Prelude.{None, if◌then◌else◌}
use Rattle.history_model.specs.History.{flat}
use Rattle.shell_session.specs.DiskView.{view_of}
use Rattle.shell_session.specs.Names.{columns_by, is_create, last_request, reply_columns, table_names}
use Rattle.shell_session.specs.Opening.{opening_of}
use Rattle.shell_session.specs.Told.{HasWritten, told_text}
use Rattle.shell_session.proofs.CalledLemmas.{noted-call}
use Rattle.shell_session.proofs.LifeLemmas.{written-refused}
use Rattle.shell_session.proofs.NameLemmas.{columns-own, up-shown}
use Rattle.shell_session.proofs.serving.serve_call.Goals as goal

-- what is kept of the call, once it is noted
pub tell_answer-told-requires-clause-keeps : goal.tell_answer-told-requires-clause-keeps
tell_answer-told-requires-clause-keeps g c = let view = view_of g.D.Disk.leaves g.D.Disk.moment g.D.Disk.might_have_left g.D.Disk.honest g.D.Disk.faults in
    let answer = c.make_call-answer.result in
    let old = c.args.book.now in
    noted-call view (opening_of c.args.engine.now) (opening_of c.make_call-answer.new.engine) c.args.call answer.place answer.reply old c.note_names.new.self c.effect_of-effect.result
    c.requires.session c.make_call-answer.ensures.called c.requires.keeps c.effect_of-effect.ensures (c.note_names.ensures.marks ∙ c.note.ensures.marks) (c.note_names.ensures.failed ∙ c.note.ensures.failed)
    (c.note_names.ensures.tables ∙ (ap (λ creates. if creates then None else c.note.new.self.tables) c.is_create-creates.ensures ∙ ap (λ tables. if is_create c.args.call.request then None else tables) c.note.ensures.tables))

-- what shows rows was answered by a disk that hasn't failed
pub tell_answer-told-requires-clause-up : goal.tell_answer-told-requires-clause-up
tell_answer-told-requires-clause-up g c shows = let view = view_of g.D.Disk.leaves g.D.Disk.moment g.D.Disk.might_have_left g.D.Disk.honest g.D.Disk.faults in
    let answer = c.make_call-answer.result in
    up-shown view (opening_of c.args.engine.now) (opening_of c.make_call-answer.new.engine) c.args.call c.args.manner.form (option_map (λ place. place.0) answer.place) answer.reply c.make_call-answer.ensures.called shows

-- the refusal was told whole
pub returns-then-is_ok-clause-serves : goal.returns-then-is_ok-clause-serves
returns-then-is_ok-clause-serves g c = let view = view_of g.D.Disk.leaves g.D.Disk.moment g.D.Disk.might_have_left g.D.Disk.honest g.D.Disk.faults in
    let answer = c.make_call-answer.result in
    let after = opening_of c.make_call-answer.new.engine in
    let names = table_names (flat after.base after.history).schema in
    let place = option_map (λ place. place.0) answer.place in
    let call = c.args.call in
    let told = subst (λ columns. HasWritten c.tell_answer-told.result (g.W.Sink.written c.args.sink.now) (g.W.Sink.written c.tell_answer-told.new.sink)
    (told_text c.args.manner.form place call.session.0 call.call c.args.line columns names answer.reply))
    (columns-own view (opening_of c.args.engine.now) after call names place answer.reply c.make_call-answer.ensures.called) c.tell_answer-told.ensures.written in
    record {
      telling = record { call = call; line = c.args.line; place = place; told = answer.reply; columns = reply_columns names call.request answer.reply; tables = names };
      of_call = refl;
      of_line = refl;
      happens = (c.make_call-answer.ensures.called, record { tables = refl; columns = refl });
      written = written-refused c.tell_answer-told.result _ _ _ (sym c.is_ok.ensures.value ∙ c.if-is_ok.true) told;
    }

-- what was told is the answer
pub returns-clause-serves : goal.returns-clause-serves
returns-clause-serves g c = let view = view_of g.D.Disk.leaves g.D.Disk.moment g.D.Disk.might_have_left g.D.Disk.honest g.D.Disk.faults in
    let answer = c.make_call-answer.result in
    let after = opening_of c.make_call-answer.new.engine in
    let names = table_names (flat after.base after.history).schema in
    let place = option_map (λ place. place.0) answer.place in
    let call = c.args.call in
    let told = subst (λ columns. HasWritten c.tell_answer-told.result (g.W.Sink.written c.args.sink.now) (g.W.Sink.written c.tell_answer-told.new.sink)
    (told_text c.args.manner.form place call.session.0 call.call c.args.line columns names answer.reply))
    (columns-own view (opening_of c.args.engine.now) after call names place answer.reply c.make_call-answer.ensures.called) c.tell_answer-told.ensures.written in
    record {
      telling = record { call = call; line = c.args.line; place = place; told = answer.reply; columns = reply_columns names call.request answer.reply; tables = names };
      of_call = refl;
      of_line = refl;
      happens = (c.make_call-answer.ensures.called, record { tables = refl; columns = refl });
      written = told;
    }
