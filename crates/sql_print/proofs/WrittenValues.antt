-- The rules of values, columns and names.
use Rattle.std.proofs.Common.{◌≡◌, ℕ, List, [], ◌∷◌, refl, inl, inr, codes}
use Rattle.std.specs.Prelude.{Option, None, Some}
use Rattle.std.specs.Fmt.{signed_decimal}
use Rattle.own_model.specs.declared.condition.Cmp.TheVariants as Cmp
use Rattle.sql_lex.specs.Keywords.{keywords}
use Rattle.sql_lex.specs.Tokens.{marks}
use Rattle.grammar_model.specs.Grammar as grammar
use Rattle.grammar_model.specs.Language.{◌>>◌, mark, pure}
use Rattle.grammar_model.specs.Limits.{Limits}
use Rattle.grammar_model.specs.Parts.{col_of}
use Rattle.text_model.specs.Canonical.{expr_words, set_words, tuple_words}
use Rattle.text_model.specs.Condition.{cmp_word, operand_words}
use Rattle.text_model.specs.Words.{words_of, word, literal_word, literal_words, names_words, column_words, key_word}
use Rattle.sql_print.proofs.Spelling.{Writes, writes-then, writes-pure}
use Rattle.sql_print.proofs.Rewriting.{Rewrites, whole, either, both_into, into, then_next, then_made, then_rule, then_skip, always, perhaps}
use Rattle.sql_print.proofs.WrittenTokens.{key, sign, sign-writes, name, text, int}
use Rattle.sql_print.proofs.WrittenLists.{with_commas, in_brackets}

module _ (limits : Limits) where
  -- NULL | int | text
  pub literal : Rewrites (grammar.literal limits) (grammar.literal limits) literal_words
  unfolding grammar.literal literal_word keywords
  literal = whole (either (then_made (key (codes "NULL") (refl, refl)) (λ _. refl)) (either (then_made (text limits) (λ _. refl)) (then_made int (λ _. refl))))

  -- (int | text)
  pub data_key : Rewrites (grammar.key limits) (grammar.key limits) (λ found. word (key_word found))
  unfolding grammar.key key_word
  data_key = whole (either (then_made (text limits) (λ _. refl)) (then_made int (λ _. refl)))

  -- . name
  dotted : Rewrites (mark (codes ".") >> grammar.name limits) (mark (codes ".") >> grammar.name limits) (λ found. codes "." ∷ found ∷ [])
  unfolding marks
  dotted = then_rule (sign (codes ".") refl) (name limits)

  -- a column's words are its first name, and a dot and its second where there is one
  column-split : (first : List ℕ) (second : Option (List ℕ)) → column_words (col_of first second) ≡ first ∷ words_of (λ found. codes "." ∷ found ∷ []) second
  unfolding column_words
  column-split first None = refl
  column-split first (Some second) = refl

  -- name [. name]
  pub col : Rewrites (grammar.col limits) (grammar.col limits) column_words
  unfolding grammar.col grammar.col_after
  col = whole (then_next (name limits) (λ first. then_made (perhaps dotted) (λ second. column-split first second)))

  -- (col | literal)
  pub operand : Rewrites (grammar.operand limits) (grammar.operand limits) operand_words
  unfolding grammar.operand operand_words
  operand = whole (either (then_made col (λ _. refl)) (then_made literal (λ _. refl)))

  -- + int
  plus_int : Rewrites (mark (codes "+") >> grammar.int) (mark (codes "+") >> grammar.int) (λ found. codes "+" ∷ signed_decimal found ∷ [])
  unfolding marks
  plus_int = then_rule (sign (codes "+") refl) int

  -- - int
  minus_int : Rewrites (mark (codes "-") >> grammar.int) (mark (codes "-") >> grammar.int) (λ found. codes "-" ∷ signed_decimal found ∷ [])
  unfolding marks
  minus_int = then_rule (sign (codes "-") refl) int

  -- literal | name | name + int | name - int
  pub expr : Rewrites (grammar.expr limits) (grammar.expr limits) expr_words
  unfolding grammar.expr expr_words
  expr =
      whole
      (either (then_made literal (λ _. refl))
      (either (then_made (name limits) (λ _. refl))
      (either (then_next (name limits) (λ column. then_made plus_int (λ _. refl)))
      (then_next (name limits) (λ column. then_made minus_int (λ _. refl))))))

  -- name = expr
  pub set : Rewrites (grammar.set limits) (grammar.set limits) set_words
  unfolding grammar.set set_words marks
  set = whole (then_next (name limits) (λ column. then_next (sign (codes "=") refl) (λ _. then_made expr (λ _. refl))))

  -- name {, name}
  pub names : Rewrites (grammar.names limits) (grammar.names limits) names_words
  unfolding grammar.names
  names = with_commas (name limits)

  -- ( literal {, literal} )
  pub tuple : Rewrites (grammar.tuple limits) (grammar.tuple limits) tuple_words
  unfolding grammar.tuple tuple_words
  tuple = in_brackets (with_commas literal)

-- <> as it is written
unequal : Writes (word (codes "<>")) ((mark (codes "<>") >> pure Cmp.Ne) Cmp.Ne)
unfolding marks
unequal = writes-then (mark (codes "<>")) (λ _. pure Cmp.Ne) tt Cmp.Ne (word (codes "<>")) [] (sign-writes (codes "<>") refl) (writes-pure Cmp.Ne)

-- = | <> | != | < | <= | > | >=
pub cmp : Rewrites grammar.cmp grammar.cmp (λ found. word (cmp_word found))
unfolding grammar.cmp cmp_word marks
cmp =
    whole
    (either (then_made (sign (codes "=") refl) (λ _. refl))
    (both_into (into (λ value out rest text. inl text) (then_made (sign (codes "<>") refl) (λ _. refl)))
    (both_into (into (λ value out rest text. inl text) (then_skip (sign (codes "!=") refl) (λ _. always (word (codes "<>")) refl unequal)))
    (into (λ value out rest text. inr (inr text)) (either (then_made (sign (codes "<") refl) (λ _. refl))
    (either (then_made (sign (codes "<=") refl) (λ _. refl))
    (either (then_made (sign (codes ">") refl) (λ _. refl))
    (then_made (sign (codes ">=") refl) (λ _. refl)))))))))
