use Rattle.std.proofs.Common.{◌≡◌, ◌∷◌, ◌++◌, All, get_or, take, ap, sym, ◌∙◌, subst, false}
use Rattle.std.specs.List.{flat_map}
use Rattle.std.proofs.lemmas.Result.{on_ok_weaker}
use Rattle.text_model.specs.Shown.{shown_byte}
use Rattle.sql_print.specs.Escapes.{is_escaped}
use Rattle.sql_print.proofs.Pieces.{one_more_piece, last_piece, no_escape-same}
use Rattle.sql_print.proofs.quoted.push_shown_bytes.Goals as goal

-- one more piece, and what is written in place of the byte after it
pub loop-at-preserved : goal.loop-at-preserved
loop-at-preserved c =
    let parts = c.split_around.ensures in
    let front = c.split_around.result.0.now in
    let back = c.split_around.result.1.now in
    let byte = get_or c.as_bytes-in-Some.result.now c.in-Some.at 0 in
    let same : get_or c.loop-at.rest.now c.in-Some.at 0 ≡ byte = ap (λ l. get_or l c.in-Some.at 0) (sym c.as_bytes-in-Some.ensures.value) in
    let plain : All (λ byte. is_escaped byte ≡ false) front = subst (All (λ byte. is_escaped byte ≡ false)) (ap (take c.in-Some.at) c.as_bytes.ensures.value ∙ sym parts.front) c.in-Some.ensures.before in
    record {
      is_text = parts.texts.1;
      same = ap (λ l. l ++ flat_map shown_byte back) (c.in_ok-push_escape.ensures ∙ ap (λ l. l ++ shown_byte byte) c.in_ok-push.ensures)
          ∙ one_more_piece shown_byte c.loop-at.buffer front back c.loop-at.rest.now _ byte c.loop-at.invariant.same (parts.whole ∙ ap (λ byte. front ++ byte ∷ back) same) (no_escape-same front plain);
    }

-- no byte to escape comes any more
pub returns : goal.returns
returns c =
    let plain : All (λ byte. is_escaped byte ≡ false) c.loop-at.rest.now = subst (All (λ byte. is_escaped byte ≡ false)) c.as_bytes.ensures.value c.in_default.ensures.none in
    on_ok_weaker c.push-2.result (λ written. written ∙ last_piece shown_byte c.loop-at.buffer c.loop-at.rest.now _ c.loop-at.invariant.same (no_escape-same c.loop-at.rest.now plain)) c.push-2.ensures
