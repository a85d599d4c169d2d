use Rattle.std.proofs.Common.{[], option_map, subst}
use Rattle.shell_session.specs.Told.{HasWritten}
use Rattle.shell_session.proofs.NameLemmas.{plain-text}
use Rattle.shell_session.proofs.serving.tell_plain.Goals as goal

-- the text without names is that with any
pub returns-clause-written : goal.returns-clause-written
returns-clause-written g c columns tables =
    let told = c.told_of-told.ensures in
    let asked = c.args.asked in
    let answer = c.args.answer.now in
    let written = rw (told.place, told.session, told.call, told.line, told.columns, told.tables) at c.tell.ensures.written in
    subst (HasWritten c.tell.result (g.W.Sink.written c.args.sink.now) (g.W.Sink.written c.tell.new.sink))
    (plain-text c.args.form (option_map (λ place. place.0) answer.place) asked.session.0 asked.number asked.line [] columns [] tables answer.reply c.requires) written
