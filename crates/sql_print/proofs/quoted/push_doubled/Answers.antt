use Rattle.std.proofs.Common.{◌≡◌, ◌≢◌, ◌∷◌, [], ◌++◌, All, get_or, take, ap, sym, ◌∙◌, subst}
use Rattle.std.proofs.lemmas.Result.{on_ok_weaker}
use Rattle.sql_lex.specs.Tokens.{doubled}
use Rattle.sql_print.proofs.Pieces.{double_quote, one_more_piece, last_piece, no_quote-same}
use Rattle.sql_print.proofs.quoted.push_doubled.Goals as goal

-- one more piece, and two quotes
pub loop-at-preserved : goal.loop-at-preserved
loop-at-preserved c =
    let parts = c.split_around.ensures in
    let front = c.split_around.result.0.now in
    let back = c.split_around.result.1.now in
    let same = c.as_bytes.ensures.value in
    let quote : get_or c.loop-at.rest.now c.in-Some.at 0 ≡ 39 = ap (λ l. get_or l c.in-Some.at 0) (sym same) ∙ c.in-Some.ensures.found.1 in
    let plain : All (λ byte. byte ≢ 39) front = subst (All (λ byte. byte ≢ 39)) (ap (take c.in-Some.at) same ∙ sym parts.front) c.in-Some.ensures.before in
    record {
      is_text = parts.texts.1;
      same = ap (λ l. l ++ doubled back) (c.in_ok-push-2.ensures ∙ ap (λ l. l ++ 39 ∷ 39 ∷ []) c.in_ok-push.ensures)
          ∙ one_more_piece double_quote c.loop-at.buffer front back c.loop-at.rest.now _ 39 c.loop-at.invariant.same (parts.whole ∙ ap (λ byte. front ++ byte ∷ back) quote) (no_quote-same front plain);
    }

-- no quote comes any more
pub returns : goal.returns
returns c =
    let plain : All (λ byte. byte ≢ 39) c.loop-at.rest.now = subst (All (λ byte. byte ≢ 39)) c.as_bytes.ensures.value c.in_default.ensures.none in
    on_ok_weaker c.push-2.result (λ written. written ∙ last_piece double_quote c.loop-at.buffer c.loop-at.rest.now _ c.loop-at.invariant.same (no_quote-same c.loop-at.rest.now plain)) c.push-2.ensures
