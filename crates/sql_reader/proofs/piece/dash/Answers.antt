use Rattle.std.proofs.Common.{◌≡◌, ◌≤◌, ◌≢◌, true, false, length, drop, take, All, ◌∙◌, sym, subst}
use Rattle.std.proofs.lemmas.Bool.{both_ways}
use Rattle.std.proofs.lemmas.List.{take_rest}
use Rattle.std.specs.Prelude.{codes}
use Rattle.sql_lex.specs.Filler.{EndsLine}
use Rattle.script_model.specs.Piece.{starts}
use Rattle.sql_reader.proofs.Scripts.FrontPieces.{comment_front, session_front, dash_front}
use Rattle.sql_reader.proofs.piece.dash.Goals as goal
use Rattle.sql_reader.proofs.piece.dash.Goals.{else-begins-via-then-begins+else-starts_with, else-begins-via-else-begins}

pub returns-then-starts_with : goal.returns-then-starts_with
returns-then-starts_with c =
    let rest = take_rest c.args.bytes.now 11 in
    session_front c.args.begins c.args.bytes.now c.line_len.result c.if-begins.true (sym c.starts_with.ensures.value ∙ c.if-starts_with.true)
    (subst (λ l. c.line_len.result ≤ length l) rest c.line_len.ensures.within)
    (subst (λ l. All (λ byte. byte ≢ 10) (take c.line_len.result l)) rest c.line_len.ensures.line)
    (subst (λ l. EndsLine (drop c.line_len.result l)) rest c.line_len.ensures.ends)

pub returns-then-starts_with-2 : goal.returns-then-starts_with-2
returns-then-starts_with-2 c =
    let rest = take_rest c.args.bytes.now 2 in
    let line = c.line_len-then-starts_with-2 in
    let no_session : c.args.begins ≡ true → starts c.args.bytes.now (codes "-- session ") ≡ false = λ here. elim c.else-begins.branch [
      | else-begins-via-then-begins+else-starts_with w ↦ sym w.starts_with.ensures.value ∙ w.if-starts_with.false
      | else-begins-via-else-begins w ↦ absurd (both_ways c.args.begins w.if-begins.false here)
    ] in
    comment_front c.args.begins c.args.bytes.now line.result (sym c.starts_with-else-begins.ensures.value ∙ c.if-starts_with-2.true) no_session
    (subst (λ l. line.result ≤ length l) rest line.ensures.within)
    (subst (λ l. All (λ byte. byte ≢ 10) (take line.result l)) rest line.ensures.line)
    (subst (λ l. EndsLine (drop line.result l)) rest line.ensures.ends)

pub returns-else-starts_with-2 : goal.returns-else-starts_with-2
returns-else-starts_with-2 c =
    dash_front c.args.begins c.args.bytes.now c.requires.some c.requires.dash (sym c.starts_with-else-begins.ensures.value ∙ c.if-starts_with-2.false)
