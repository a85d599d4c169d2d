use Rattle.std.proofs.Common.{Bor, List, ℕ, ◌∙◌}
use Rattle.sql_lex.proofs.Keywords.{keyword_is}
use Rattle.sql_lex.proofs.keyword.is_keyword.Goals as goal

-- it is compared with those of its length
pub returns : goal.returns
returns c = c.is_among.ensures ∙ keyword_is (λ (word : Bor (List ℕ)). word.now) c.args.word.now c.of_length.result.now c.of_length.ensures
