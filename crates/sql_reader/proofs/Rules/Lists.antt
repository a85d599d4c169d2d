-- The rules of AND and OR lists.
use Rattle.std.proofs.Common.{Bool, false, [], ◌∷◌, refl, codes}
use Rattle.own_model.specs.declared.condition.Cond.{Cond}
use Rattle.own_model.specs.declared.condition.Cond.TheVariants as Cond
use Rattle.own_model.specs.declared.limit.LimitName.{LimitName}
use Rattle.grammar_model.specs.Grammar as grammar
use Rattle.grammar_model.specs.Language as languages
use Rattle.grammar_model.specs.Language.{Language, ◌>>=◌, ◌>>◌, ◌or◌}
use Rattle.sql_reader.specs.reading.Reader.{Reader}
use Rattle.sql_reader.specs.reading.Condition as condition_rules
use Rattle.sql_reader.proofs.OtherWords.{as_often, with_more}
use Rattle.sql_reader.proofs.Choices.{word_right, pure_right, word_tests}
use Rattle.sql_reader.proofs.Heads.{AWord, AMark, AName}
use Rattle.sql_reader.proofs.Joins.{and_then}
use Rattle.sql_reader.proofs.ReaderRight.{Right}
use Rattle.grammar_model.specs.Parts.{list_of}

module _ (lifts : LimitName → Bool) (reader other : Reader Cond) (language : Language Cond) (neg : Right lifts reader other language (AWord (codes "NOT") ∷ AMark (codes "(") ∷ AName ∷ []) false (AMark (codes ".") ∷ [])) where
  -- neg {AND neg}
  pub conj_parts_right :
      Right lifts (condition_rules.conj_parts reader) (condition_rules.conj_parts other)
      (languages.separated (languages.word (codes "AND")) language)
      (AWord (codes "NOT") ∷ AMark (codes "(") ∷ AName ∷ []) false (AWord (codes "AND") ∷ AMark (codes ".") ∷ [])
  unfolding condition_rules.conj_parts
  conj_parts_right =
      with_more (AWord (codes "NOT") ∷ AMark (codes "(") ∷ AName ∷ []) false (AWord (codes "AND") ∷ AMark (codes ".") ∷ [])
      (and_then neg (λ first.
      and_then (as_often (word_tests (codes "AND")) (and_then (word_right (codes "AND")) (λ _. neg) refl) refl) (λ others.
      pure_right (first ∷ others)) refl) refl) refl (λ is. is) refl

  -- conj = neg {AND neg}
  pub conj_over_right :
      Right lifts (condition_rules.conj_over reader) (condition_rules.conj_over other)
      (grammar.conj language)
      (AWord (codes "NOT") ∷ AMark (codes "(") ∷ AName ∷ []) false (AWord (codes "AND") ∷ AMark (codes ".") ∷ [])
  unfolding condition_rules.conj_over grammar.conj
  conj_over_right = and_then conj_parts_right (λ parts. pure_right (list_of Cond.Every parts)) refl

  -- conj {OR conj}
  pub cond_parts_right :
      Right lifts (condition_rules.cond_parts reader) (condition_rules.cond_parts other)
      (languages.separated (languages.word (codes "OR")) (grammar.conj language))
      (AWord (codes "NOT") ∷ AMark (codes "(") ∷ AName ∷ []) false (AWord (codes "OR") ∷ AWord (codes "AND") ∷ AMark (codes ".") ∷ [])
  unfolding condition_rules.cond_parts
  cond_parts_right =
      with_more (AWord (codes "NOT") ∷ AMark (codes "(") ∷ AName ∷ []) false (AWord (codes "OR") ∷ AWord (codes "AND") ∷ AMark (codes ".") ∷ [])
      (and_then conj_over_right (λ first.
      and_then (as_often (word_tests (codes "OR")) (and_then (word_right (codes "OR")) (λ _. conj_over_right) refl) refl) (λ others.
      pure_right (first ∷ others)) refl) refl) refl (λ is. is) refl

  -- cond = conj {OR conj}
  pub cond_over_right :
      Right lifts (condition_rules.cond_over reader) (condition_rules.cond_over other)
      (grammar.cond language)
      (AWord (codes "NOT") ∷ AMark (codes "(") ∷ AName ∷ []) false (AWord (codes "OR") ∷ AWord (codes "AND") ∷ AMark (codes ".") ∷ [])
  unfolding condition_rules.cond_over grammar.cond
  cond_over_right = and_then cond_parts_right (λ parts. pure_right (list_of Cond.Some1 parts)) refl
