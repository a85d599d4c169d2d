use Rattle.std.proofs.Common.{◌≡◌, Err, IfSome, sym, ap, ◌∙◌, subst}
use Rattle.std.specs.Prelude.{map}
use Rattle.grammar_model.specs.Answer.{IsAnswer}
use Rattle.grammar_model.specs.Terminal.{terminal_of}
use Rattle.sql_reader.specs.AnswerOf.{answer_of}
use Rattle.sql_reader.specs.reading.Reader.{Does}
use Rattle.sql_reader.specs.reading.Whole.{whole}
use Rattle.sql_reader.proofs.Answering.{answer, answers_fault, answers_ok}
use Rattle.sql_reader.proofs.read.read_sharing.Goals as goal

-- A statement.
pub returns-in-Ok-read : goal.returns-in-Ok-read
returns-in-Ok-read c =
    let same : c.new-cursor.result ≡ map terminal_of c.in-Ok.found.items = c.new-cursor.ensures ∙ ap (map terminal_of) c.as_slice.ensures.value in
    answer c.args.text.now c.in-Ok.found.items _ c.in-Ok.ensures.cut c.in-Ok.ensures.only
    (answers_ok c.args.text.now (map terminal_of c.in-Ok.found.items) _ _ (ap whole (sym same) ∙ c.in-Ok-read.ensures.0))

-- Why there is none.
pub returns : goal.returns
returns c =
    let same : c.new-cursor.result ≡ map terminal_of c.in-Ok.found.items = c.new-cursor.ensures ∙ ap (map terminal_of) c.as_slice.ensures.value in
    subst (λ fault. IfSome (answer_of (Err fault)) (λ answer. IsAnswer c.args.text.now answer)) (sym c.fault_at.ensures)
    (answers_fault c.args.text.now c.in-Ok.found.items c.new-cursor.result c.whole-read.new.cursor c.in-Err.fault c.place-place.result c.in-Ok.ensures.cut c.in-Ok.ensures.only same
    (subst (λ r. Does whole c.new-cursor.result r c.whole-read.new.cursor) c.in-Err.is c.whole-read.ensures) c.place-place.ensures)
