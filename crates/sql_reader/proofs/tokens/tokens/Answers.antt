use Rattle.std.proofs.Common.{◌≡◌, ◌++◌, ◌∷◌, [], Ok, refl, sym, ap, ◌∙◌, subst}
use Rattle.std.specs.Prelude.{MatchOption, map}
use Rattle.sql_lex.specs.Lexing.{Lexing}
use Rattle.grammar_model.specs.Terminals.{IsCutInto, AreTerminals}
use Rattle.grammar_model.specs.Terminal.{Terminals}
use Rattle.grammar_model.specs.Terminal.{terminal_of}
use Rattle.sql_reader.proofs.CutTexts.{Chain, Chain-push, Chain-end, Chain-lost, IsTheAnswer, AreTerminals-end, AreTerminals-lost}
use Rattle.sql_reader.proofs.tokens.tokens.Goals as goal

pub loop-token-preserved : goal.loop-token-preserved
loop-token-preserved c =
    let from : Lexing = record { text = c.args.text.now; at = 0 } in
    let found = c.in-Ok-Some in
    let moved = subst (λ o. MatchOption o (c.next.new.self ≡ c.loop-token.lexer) (λ token. c.next.new.self ≡ record c.loop-token.lexer { at = token.end })) found.field-0-is found.ensures.moved in
    let next = subst (λ o. IsTheAnswer c.loop-token.lexer (Ok o)) found.field-0-is (record { right = found.ensures.answer; only = found.ensures.only }) in
    record {
      chain = subst (λ l. Chain from l c.next.new.self) (sym c.in_ok-push-in-Ok-Some.ensures.items)
          (subst (λ l. Chain from (c.loop-token.tokens.items ++ found.token ∷ []) l) (sym moved)
          (Chain-push from c.loop-token.tokens.items c.loop-token.lexer found.token c.loop-token.invariant.chain next));
      same_text = ap (λ l. l.text) moved ∙ c.loop-token.invariant.same_text;
    }

pub returns-in-Ok-None : goal.returns-in-Ok-None
returns-in-Ok-None c =
    let lexer = c.loop-token.lexer in
    let found = c.loop-token.tokens.items in
    let none = c.in-Ok-None in
    let ends = subst (λ o. IsTheAnswer lexer (Ok o)) none.field-0-is (record { right = none.ensures.answer; only = none.ensures.only }) in
    record {
      cut = Chain-end (record { text = c.args.text.now; at = 0 }) found lexer c.loop-token.invariant.chain ends.right;
      only = AreTerminals-end c.args.text.now found lexer c.loop-token.invariant.chain ends;
    }

pub returns-in-Err : goal.returns-in-Err
returns-in-Err c =
    let text = c.args.text.now in
    let lexer = c.loop-token.lexer in
    let found = c.loop-token.tokens.items in
    let pushed = sym c.in_ok-push-in-Err.ensures.items in
    let fault = c.in-Err.ensures in
    record {
      cut = subst (IsCutInto (record { text = text; at = 0 })) pushed
          (Chain-lost (record { text = text; at = 0 }) found lexer _ c.loop-token.invariant.chain (record { fault = fault.answer; kind = refl; bytes = refl }));
      only = subst (λ l. (other : Terminals) → AreTerminals text other → other ≡ map terminal_of l) pushed
          (AreTerminals-lost text found lexer _ c.loop-token.invariant.chain (record { fault = fault.answer; kind = refl; bytes = refl }) (record { right = fault.answer; only = fault.only }));
    }
