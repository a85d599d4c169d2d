use Rattle.std.proofs.Common.{subst}
use Rattle.sql_lex.specs.Lexing.{IsNextAnswer}
use Rattle.sql_lex.proofs.Once.{NextAnswer-once}
use Rattle.sql_lex.proofs.lexer.Lexer.next.Goals as goal

pub returns-in-Ok-Some-clause-only : goal.returns-in-Ok-Some-clause-only
returns-in-Ok-Some-clause-only c = λ other. NextAnswer-once c.args.self.now c.token_at-answer.result other (subst (λ l. IsNextAnswer l c.token_at-answer.result) c.self.view_is c.token_at-answer.ensures)

pub returns-clause-only : goal.returns-clause-only
returns-clause-only c = λ other. NextAnswer-once c.args.self.now c.token_at-answer.result other (subst (λ l. IsNextAnswer l c.token_at-answer.result) c.self.view_is c.token_at-answer.ensures)

pub returns-2-clause-only : goal.returns-2-clause-only
returns-2-clause-only c = λ other. NextAnswer-once c.args.self.now c.token_at-answer.result other (subst (λ l. IsNextAnswer l c.token_at-answer.result) c.self.view_is c.token_at-answer.ensures)
