-- The rules of an item of a select.
use Rattle.std.proofs.Common.{◌≡◌, ℕ, Bool, true, false, List, [], ◌∷◌, refl, codes, subst, inl, inr}
use Rattle.std.proofs.lemmas.Slice.Eq.{bytes_eq-Decides}
use Rattle.std.specs.Str.{bytes_eq}
use Rattle.own_model.specs.declared.limit.LimitName.{LimitName}
use Rattle.own_model.specs.declared.select.What.{What}
use Rattle.grammar_model.specs.Grammar as grammar
use Rattle.grammar_model.specs.Language as language
use Rattle.grammar_model.specs.Language.{Language, ◌>>=◌, ◌>>◌, ◌or◌}
use Rattle.grammar_model.specs.Limits.{Limits}
use Rattle.grammar_model.specs.Terminal.{Terminals}
use Rattle.sql_reader.specs.reading.Select as select_rules
use Rattle.sql_reader.specs.reading.Select.{is_plain, is_listed}
use Rattle.sql_reader.proofs.OtherWords.{decided, with_more, in_words, Into}
use Rattle.sql_reader.proofs.Choices.{or_else, or_nothing, word_right, mark_right, pure_right, word_tests, mark_tests}
use Rattle.sql_reader.proofs.Heads.{AWord, AMark, AName}
use Rattle.sql_reader.proofs.Joins.{and_then}
use Rattle.sql_reader.proofs.Leaves.{name_right}
use Rattle.sql_reader.proofs.ReaderRight.{Right}
use Rattle.sql_reader.proofs.Rules.Values.{col_behind_right, col_right}
use Rattle.sql_reader.proofs.Lifts.{lift, Fair}

-- ( * ), after COUNT
abbrev count_after : Language What
count_after = do
  language.mark (codes "(")
  language.mark (codes "*")
  language.mark (codes ")")
  language.pure What.Count

-- ( col ), after SUM
abbrev sum_of_after : Limits → Language What
sum_of_after limits = do
  language.mark (codes "(")
  found ← grammar.col limits
  language.mark (codes ")")
  language.pure (What.SumOf found)

-- a column, after its first name
abbrev col_what : Limits → List ℕ → Language What
col_what limits first = grammar.col_after limits first >>= λ column. language.pure (What.Column column)

-- what may come after the first name of an item
abbrev pub what_after : Limits → List ℕ → Language What
what_after limits first =
    language.whether (bytes_eq first (codes "count")) (count_after or col_what limits first)
    (language.whether (bytes_eq first (codes "sum")) (sum_of_after limits or col_what limits first)
    (col_what limits first))

module _ (lifts : LimitName → Bool) (limits : Limits) (fair : Fair limits) where
  -- ( * ), after COUNT
  pub count_behind_right : Right lifts select_rules.count_after select_rules.count_after count_after (AMark (codes "(") ∷ []) false []
  unfolding select_rules.count_after
  count_behind_right =
      and_then (mark_right (codes "(")) (λ _.
      and_then (mark_right (codes "*")) (λ _. and_then (mark_right (codes ")")) (λ _. pure_right What.Count) refl) refl) refl

  -- ( col ), after SUM
  pub sum_of_behind_right :
      Right lifts (select_rules.sum_of_after limits) (select_rules.sum_of_after (lift lifts limits))
      (sum_of_after limits)
      (AMark (codes "(") ∷ []) false []
  unfolding select_rules.sum_of_after
  sum_of_behind_right =
      and_then (mark_right (codes "(")) (λ _.
      and_then (col_right lifts limits fair) (λ column. and_then (mark_right (codes ")")) (λ _. pure_right (What.SumOf column)) refl) refl) refl

  -- what an item is, after its first name
  pub what_behind_right : (first : List ℕ) →
      Right lifts (select_rules.what_after limits first) (select_rules.what_after (lift lifts limits) first)
      (what_after limits first)
      (AMark (codes "(") ∷ AMark (codes ".") ∷ []) true (AMark (codes ".") ∷ AMark (codes "(") ∷ [])
  unfolding select_rules.what_after
  what_behind_right first =
      decided (bytes_eq first (codes "count"))
      (with_more (AMark (codes "(") ∷ AMark (codes ".") ∷ []) true (AMark (codes ".") ∷ AMark (codes "(") ∷ [])
      (or_else (mark_tests (codes "(")) count_behind_right
      (and_then ((col_behind_right lifts limits fair) first) (λ column. pure_right (What.Column column)) refl) refl) refl (λ is. is) refl)
      (decided (bytes_eq first (codes "sum"))
      (with_more (AMark (codes "(") ∷ AMark (codes ".") ∷ []) true (AMark (codes ".") ∷ AMark (codes "(") ∷ [])
      (or_else (mark_tests (codes "(")) sum_of_behind_right
      (and_then ((col_behind_right lifts limits fair) first) (λ column. pure_right (What.Column column)) refl) refl) refl (λ is. is) refl)
      (with_more (AMark (codes "(") ∷ AMark (codes ".") ∷ []) true (AMark (codes ".") ∷ AMark (codes "(") ∷ [])
      (and_then ((col_behind_right lifts limits fair) first) (λ column. pure_right (What.Column column)) refl) refl (λ is. is) refl))

  -- [AS name]
  pub alias_right :
      Right lifts (select_rules.alias limits) (select_rules.alias (lift lifts limits))
      (grammar.alias limits)
      (AWord (codes "AS") ∷ []) true (AWord (codes "AS") ∷ [])
  unfolding select_rules.alias grammar.alias
  alias_right = or_nothing (word_tests (codes "AS")) (and_then (word_right (codes "AS")) (λ _. name_right lifts limits fair) refl)

  -- what an item is, as its rule says it
  what_to : (first : List ℕ) (value : What) (terminals middle rest : Terminals) → grammar.name limits first terminals middle → what_after limits first value middle rest → (grammar.column limits or (grammar.count limits or grammar.sum limits)) value terminals rest
  unfolding grammar.col
  what_to first value terminals middle rest named behind = by_count (bytes_eq first (codes "count")) refl behind
    where
      a_column : col_what limits first value middle rest → (grammar.column limits or (grammar.count limits or grammar.sum limits)) value terminals rest
      a_column (column, end, text, made) = inl (column, end, (first, middle, named, text), made)

      called : (wanted : List ℕ) → bytes_eq first wanted ≡ true → grammar.function limits wanted tt terminals middle
      called wanted is = subst (λ n. grammar.name limits n terminals middle) ((bytes_eq-Decides first wanted).0 is) named

      by_sum : (answer : Bool) → bytes_eq first (codes "sum") ≡ answer → language.whether answer (sum_of_after limits or col_what limits first) (col_what limits first) value middle rest → (grammar.column limits or (grammar.count limits or grammar.sum limits)) value terminals rest
      by_sum true is (inl text) = inr (inr (tt, middle, called (codes "sum") is, text))
      by_sum true is (inr text) = a_column text
      by_sum false is text = a_column text

      by_count : (answer : Bool) → bytes_eq first (codes "count") ≡ answer → language.whether answer (count_after or col_what limits first) (language.whether (bytes_eq first (codes "sum")) (sum_of_after limits or col_what limits first) (col_what limits first)) value middle rest → (grammar.column limits or (grammar.count limits or grammar.sum limits)) value terminals rest
      by_count true is (inl text) = inr (inl (tt, middle, called (codes "count") is, text))
      by_count true is (inr text) = a_column text
      by_count false is text = by_sum (bytes_eq first (codes "sum")) refl text

  -- a column may stand after each first name
  what_column : (first : List ℕ) (value : What) (middle rest : Terminals) → col_what limits first value middle rest → what_after limits first value middle rest
  what_column first value middle rest text = by_count (bytes_eq first (codes "count"))
    where
      by_sum : (answer : Bool) → language.whether answer (sum_of_after limits or col_what limits first) (col_what limits first) value middle rest
      by_sum true = inr text
      by_sum false = text

      by_count : (answer : Bool) → language.whether answer (count_after or col_what limits first) (language.whether (bytes_eq first (codes "sum")) (sum_of_after limits or col_what limits first) (col_what limits first)) value middle rest
      by_count true = inr text
      by_count false = by_sum (bytes_eq first (codes "sum"))

  what_from : (value : What) (terminals rest : Terminals) → (grammar.column limits or (grammar.count limits or grammar.sum limits)) value terminals rest → (grammar.name limits >>= what_after limits) value terminals rest
  unfolding grammar.col
  what_from value terminals rest (inl (column, end, (first, middle, named, text), made)) = (first, middle, named, what_column first value middle rest (column, end, text, made))
  what_from value terminals rest (inr (inl (found, middle, named, text))) = (codes "count", middle, named, inl text)
  what_from value terminals rest (inr (inr (found, middle, named, text))) = (codes "sum", middle, named, inl text)

  -- gitem = (col | COUNT ( * ) | SUM ( col )) [AS name]
  pub item_right :
      Right lifts (select_rules.item limits) (select_rules.item (lift lifts limits))
      (grammar.gitem limits)
      (AName ∷ []) false (AWord (codes "AS") ∷ AMark (codes ".") ∷ AMark (codes "(") ∷ [])
  unfolding select_rules.item grammar.gitem
  item_right =
      in_words (grammar.gitem limits) to from
      (and_then (name_right lifts limits fair) (λ first.
      and_then (what_behind_right first) (λ found.
      and_then alias_right (λ called. pure_right (record { what = found; alias = called })) refl) refl) refl)
    where
      to : Into (grammar.name limits >>= λ first. what_after limits first >>= λ found. grammar.alias limits >>= λ called. language.pure (record { what = found; alias = called })) (grammar.gitem limits)
      to value terminals rest (first, middle, named, (found, end, what, called)) = (found, end, what_to first found terminals middle end named what, called)

      from : Into (grammar.gitem limits) (grammar.name limits >>= λ first. what_after limits first >>= λ found. grammar.alias limits >>= λ called. language.pure (record { what = found; alias = called }))
      from value terminals rest (found, end, what, called) = let text = what_from found terminals end what in (text.0, text.1, text.2, (found, end, text.3, called))
