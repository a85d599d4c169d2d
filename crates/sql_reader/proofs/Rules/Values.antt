-- The rules of names, numbers, texts and values.
use Rattle.std.proofs.Common.{ℕ, Bool, true, false, List, [], ◌∷◌, refl, codes, inl, inr}
use Rattle.own_base.specs.declared.value.Value.{Value}
use Rattle.own_model.specs.declared.limit.LimitName.{LimitName}
use Rattle.own_model.specs.declared.expression.Expr.{Expr}
use Rattle.grammar_model.specs.Grammar as grammar
use Rattle.grammar_model.specs.Language as language
use Rattle.grammar_model.specs.Language.{Language, ◌>>=◌, ◌>>◌, ◌or◌}
use Rattle.grammar_model.specs.Limits.{Limits}
use Rattle.sql_reader.specs.reading.Rules as rules
use Rattle.sql_reader.proofs.OtherWords.{as_often, in_words, Into}
use Rattle.sql_reader.proofs.Choices.{or_else, or_nothing, word_right, mark_right, pure_right, word_tests, mark_tests, name_tests, quoted_tests}
use Rattle.sql_reader.proofs.Heads.{AWord, AMark, AName, ANumber, AQuoted}
use Rattle.sql_reader.proofs.Joins.{and_then}
use Rattle.sql_reader.proofs.Leaves.{name_right, text_right, number_right}
use Rattle.sql_reader.proofs.ReaderRight.{Right}
use Rattle.grammar_model.specs.Parts.{col_of}
use Rattle.sql_reader.proofs.Lifts.{lift, Fair}

-- what may come after the name of an expression
abbrev sum_lang : List ℕ → Language Expr
sum_lang column =
    (language.mark (codes "+") >> grammar.int >>= λ more. language.pure (Expr.Plus column more))
    or ((language.mark (codes "-") >> grammar.int >>= λ fewer. language.pure (Expr.Minus column fewer))
    or language.pure (Expr.Column column))

module _ (lifts : LimitName → Bool) (limits : Limits) (fair : Fair limits) where
  -- [-] number
  pub int_right : Right lifts rules.int rules.int grammar.int (AMark (codes "-") ∷ ANumber ∷ []) false []
  unfolding rules.int grammar.int
  int_right = or_else (mark_tests (codes "-")) (and_then (mark_right (codes "-")) (λ _. number_right true) refl) (number_right false) refl

  -- name {, name}
  pub names_right :
      Right lifts (rules.names limits) (rules.names (lift lifts limits))
      (grammar.names limits)
      (AName ∷ []) false (AMark (codes ",") ∷ [])
  unfolding rules.names grammar.names
  names_right =
      and_then (name_right lifts limits fair) (λ first.
      and_then (as_often (mark_tests (codes ",")) (and_then (mark_right (codes ",")) (λ _. name_right lifts limits fair) refl) refl) (λ others.
      pure_right (first ∷ others)) refl) refl

  -- ( name )
  pub one_name_right :
      Right lifts (rules.one_name limits) (rules.one_name (lift lifts limits))
      (language.bracketed (grammar.name limits))
      (AMark (codes "(") ∷ []) false []
  unfolding rules.one_name
  one_name_right =
      and_then (mark_right (codes "(")) (λ _.
      and_then (name_right lifts limits fair) (λ found. and_then (mark_right (codes ")")) (λ _. pure_right found) refl) refl) refl

  -- ( names )
  pub bracketed_names_right :
      Right lifts (rules.bracketed_names limits) (rules.bracketed_names (lift lifts limits))
      (language.bracketed (grammar.names limits))
      (AMark (codes "(") ∷ []) false []
  unfolding rules.bracketed_names
  bracketed_names_right =
      and_then (mark_right (codes "(")) (λ _.
      and_then names_right (λ found. and_then (mark_right (codes ")")) (λ _. pure_right found) refl) refl) refl

  -- [. name], after a name
  pub col_behind_right : (first : List ℕ) →
      Right lifts (rules.col_after limits first) (rules.col_after (lift lifts limits) first)
      (grammar.col_after limits first)
      (AMark (codes ".") ∷ []) true (AMark (codes ".") ∷ [])
  unfolding rules.col_after grammar.col_after
  col_behind_right first =
      and_then (or_nothing (mark_tests (codes ".")) (and_then (mark_right (codes ".")) (λ _. name_right lifts limits fair) refl)) (λ second.
      pure_right (col_of first second)) refl

  -- name [. name]
  pub col_right : Right lifts (rules.col limits) (rules.col (lift lifts limits)) (grammar.col limits) (AName ∷ []) false (AMark (codes ".") ∷ [])
  unfolding rules.col grammar.col
  col_right = and_then (name_right lifts limits fair) (λ first. col_behind_right first) refl

  -- NULL | int | text
  pub literal_right :
      Right lifts (rules.literal limits) (rules.literal (lift lifts limits))
      (grammar.literal limits)
      (AWord (codes "NULL") ∷ AQuoted ∷ AMark (codes "-") ∷ ANumber ∷ []) false []
  unfolding rules.literal grammar.literal
  literal_right =
      or_else (word_tests (codes "NULL"))
      (and_then (word_right (codes "NULL")) (λ _. pure_right Value.Null) refl)
      (or_else quoted_tests
      (and_then (text_right lifts limits fair) (λ found. pure_right (Value.Text found)) refl)
      (and_then int_right (λ found. pure_right (Value.Int found)) refl) refl) refl

  -- literal {, literal}
  pub values_right :
      Right lifts (rules.values limits) (rules.values (lift lifts limits))
      (language.listed (grammar.literal limits))
      (AWord (codes "NULL") ∷ AQuoted ∷ AMark (codes "-") ∷ ANumber ∷ []) false (AMark (codes ",") ∷ [])
  unfolding rules.values
  values_right =
      and_then literal_right (λ first.
      and_then (as_often (mark_tests (codes ",")) (and_then (mark_right (codes ",")) (λ _. literal_right) refl) refl) (λ others.
      pure_right (first ∷ others)) refl) refl

  -- ( literal {, literal} )
  pub tuple_right : Right lifts (rules.tuple limits) (rules.tuple (lift lifts limits)) (grammar.tuple limits) (AMark (codes "(") ∷ []) false []
  unfolding rules.tuple grammar.tuple
  tuple_right =
      and_then (mark_right (codes "(")) (λ _.
      and_then values_right (λ found. and_then (mark_right (codes ")")) (λ _. pure_right found) refl) refl) refl

  -- name | name + int | name - int, after the name
  pub sum_behind_right : (column : List ℕ) →
      Right lifts (rules.sum_after column) (rules.sum_after column)
      (sum_lang column)
      (AMark (codes "+") ∷ AMark (codes "-") ∷ []) true (AMark (codes "-") ∷ AMark (codes "+") ∷ [])
  unfolding rules.sum_after
  sum_behind_right column =
      or_else (mark_tests (codes "+"))
      (and_then (and_then (mark_right (codes "+")) (λ _. int_right) refl) (λ more. pure_right (Expr.Plus column more)) refl)
      (or_else (mark_tests (codes "-"))
      (and_then (and_then (mark_right (codes "-")) (λ _. int_right) refl) (λ fewer. pure_right (Expr.Minus column fewer)) refl) (pure_right (Expr.Column column)) refl) refl

  -- literal | name | name + int | name - int
  pub expr_right :
      Right lifts (rules.expr_rule limits) (rules.expr_rule (lift lifts limits))
      (grammar.expr limits)
      (AName ∷ AWord (codes "NULL") ∷ AQuoted ∷ AMark (codes "-") ∷ ANumber ∷ []) false (AMark (codes "-") ∷ AMark (codes "+") ∷ [])
  unfolding rules.expr_rule grammar.expr
  expr_right =
      in_words (grammar.expr limits) to from
      (or_else name_tests
      (and_then (name_right lifts limits fair) (λ column. sum_behind_right column) refl)
      (and_then literal_right (λ found. pure_right (Expr.Literal found)) refl) refl)
    where
      to : Into ((grammar.name limits >>= sum_lang) or (grammar.literal limits >>= λ found. language.pure (Expr.Literal found))) (grammar.expr limits)
      to value terminals rest (inl (column, middle, text, inl more)) = inr (inr (inl (column, middle, text, more)))
      to value terminals rest (inl (column, middle, text, inr (inl fewer))) = inr (inr (inr (column, middle, text, fewer)))
      to value terminals rest (inl (column, middle, text, inr (inr alone))) = inr (inl (column, middle, text, alone))
      to value terminals rest (inr text) = inl text

      from : Into (grammar.expr limits) ((grammar.name limits >>= sum_lang) or (grammar.literal limits >>= λ found. language.pure (Expr.Literal found)))
      from value terminals rest (inl text) = inr text
      from value terminals rest (inr (inl (column, middle, text, alone))) = inl (column, middle, text, inr (inr alone))
      from value terminals rest (inr (inr (inl (column, middle, text, more)))) = inl (column, middle, text, inl more)
      from value terminals rest (inr (inr (inr (column, middle, text, fewer)))) = inl (column, middle, text, inr (inl fewer))
