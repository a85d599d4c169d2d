-- The rules of comparisons.
use Rattle.std.proofs.Common.{Bool, false, [], ◌∷◌, refl, codes, inl, inr}
use Rattle.own_model.specs.declared.condition.Cmp.TheVariants as Cmp
use Rattle.own_model.specs.declared.condition.Cond.{Cond}
use Rattle.own_model.specs.declared.condition.Operand.TheVariants as Operand
use Rattle.own_model.specs.declared.limit.LimitName.{LimitName}
use Rattle.own_model.specs.declared.select.ColRef.{ColRef}
use Rattle.grammar_model.specs.Grammar as grammar
use Rattle.grammar_model.specs.Language.{◌>>=◌, ◌or◌}
use Rattle.grammar_model.specs.Limits.{Limits}
use Rattle.sql_reader.specs.reading.Condition as condition_rules
use Rattle.sql_reader.proofs.OtherWords.{in_words, Into}
use Rattle.sql_reader.proofs.Choices.{or_else, or_nothing, word_right, mark_right, pure_right, word_tests, mark_tests, name_tests}
use Rattle.sql_reader.proofs.Heads.{AWord, AMark, AName, ANumber, AQuoted}
use Rattle.sql_reader.proofs.Joins.{and_then}
use Rattle.sql_reader.proofs.ReaderRight.{Right}
use Rattle.sql_reader.proofs.Rules.Values.{col_right, literal_right}
use Rattle.grammar_model.specs.Parts.{is_there}
use Rattle.sql_reader.proofs.Lifts.{lift, Fair}

module _ (lifts : LimitName → Bool) (limits : Limits) (fair : Fair limits) where
  -- = | <> | != | < | <= | > | >=
  pub comparison_sign_right :
      Right lifts condition_rules.comparison_sign condition_rules.comparison_sign
      grammar.cmp
      (AMark (codes "=") ∷ AMark (codes "<>") ∷ AMark (codes "!=") ∷ AMark (codes "<") ∷ AMark (codes "<=") ∷ AMark (codes ">") ∷ AMark (codes ">=") ∷ []) false []
  unfolding condition_rules.comparison_sign grammar.cmp
  comparison_sign_right =
      or_else (mark_tests (codes "="))
      (and_then (mark_right (codes "=")) (λ _. pure_right Cmp.Eq) refl)
      (or_else (mark_tests (codes "<>"))
      (and_then (mark_right (codes "<>")) (λ _. pure_right Cmp.Ne) refl)
      (or_else (mark_tests (codes "!="))
      (and_then (mark_right (codes "!=")) (λ _. pure_right Cmp.Ne) refl)
      (or_else (mark_tests (codes "<"))
      (and_then (mark_right (codes "<")) (λ _. pure_right Cmp.Lt) refl)
      (or_else (mark_tests (codes "<="))
      (and_then (mark_right (codes "<=")) (λ _. pure_right Cmp.Le) refl)
      (or_else (mark_tests (codes ">"))
      (and_then (mark_right (codes ">")) (λ _. pure_right Cmp.Gt) refl)
      (and_then (mark_right (codes ">=")) (λ _. pure_right Cmp.Ge) refl) refl) refl) refl) refl) refl) refl

  -- col | literal
  pub operand_rule_right :
      Right lifts (condition_rules.operand_rule limits) (condition_rules.operand_rule (lift lifts limits))
      (grammar.operand limits)
      (AName ∷ AWord (codes "NULL") ∷ AQuoted ∷ AMark (codes "-") ∷ ANumber ∷ []) false (AMark (codes ".") ∷ [])
  unfolding condition_rules.operand_rule grammar.operand
  operand_rule_right =
      or_else name_tests
      (and_then (col_right lifts limits fair) (λ found. pure_right (Operand.Column found)) refl)
      (and_then (literal_right lifts limits fair) (λ found. pure_right (Operand.Literal found)) refl) refl

  -- cmp (col | literal) | IS [NOT] NULL, after a column
  pub compared_right : (column : ColRef) →
      Right lifts (condition_rules.compared limits column) (condition_rules.compared (lift lifts limits) column)
      (grammar.tested column or grammar.compared limits column)
      (AWord (codes "IS") ∷ AMark (codes "=") ∷ AMark (codes "<>") ∷ AMark (codes "!=") ∷ AMark (codes "<") ∷ AMark (codes "<=") ∷ AMark (codes ">") ∷ AMark (codes ">=") ∷ []) false (AMark (codes ".") ∷ [])
  unfolding condition_rules.compared
  compared_right column =
      or_else (word_tests (codes "IS"))
      (and_then (word_right (codes "IS")) (λ _.
      and_then (or_nothing (word_tests (codes "NOT")) (word_right (codes "NOT"))) (λ negated.
      and_then (word_right (codes "NULL")) (λ _. pure_right (Cond.IsNull column (is_there negated))) refl) refl) refl)
      (and_then comparison_sign_right (λ sign. and_then operand_rule_right (λ right. pure_right (Cond.Compare column sign right)) refl) refl) refl

  -- col cmp (col | literal) | col IS [NOT] NULL
  pub comparison_right :
      Right lifts (condition_rules.comparison limits) (condition_rules.comparison (lift lifts limits))
      (grammar.comparison limits)
      (AName ∷ []) false (AMark (codes ".") ∷ [])
  unfolding condition_rules.comparison grammar.comparison
  comparison_right = in_words (grammar.comparison limits) to from (and_then (col_right lifts limits fair) (λ column. compared_right column) refl)
    where
      to : Into (grammar.col limits >>= λ column. grammar.tested column or grammar.compared limits column) (grammar.comparison limits)
      to value terminals rest (column, middle, text, inl behind) = inr (column, middle, text, behind)
      to value terminals rest (column, middle, text, inr behind) = inl (column, middle, text, behind)

      from : Into (grammar.comparison limits) (grammar.col limits >>= λ column. grammar.tested column or grammar.compared limits column)
      from value terminals rest (inl (column, middle, text, behind)) = (column, middle, text, inr behind)
      from value terminals rest (inr (column, middle, text, behind)) = (column, middle, text, inl behind)
