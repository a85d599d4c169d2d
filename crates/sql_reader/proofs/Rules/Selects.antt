-- The rules of a select.
use Rattle.std.proofs.Common.{◌≡◌, Bool, true, false, [], ◌∷◌, refl, codes}
use Rattle.std.specs.Prelude.{◌||◌, ◌&&◌, not, Option, None}
use Rattle.own_model.specs.declared.limit.LimitName.{LimitName}
use Rattle.own_model.specs.declared.select.Items.{Items}
use Rattle.own_model.specs.declared.select.Join.{Join}
use Rattle.grammar_model.specs.Grammar as grammar
use Rattle.grammar_model.specs.Language as language
use Rattle.grammar_model.specs.Language.{Language, ◌>>=◌, ◌>>◌, ◌or◌}
use Rattle.grammar_model.specs.Limits.{Limits}
use Rattle.sql_reader.specs.reading.Select as select_rules
use Rattle.sql_reader.specs.reading.Select.{is_plain, is_listed}
use Rattle.grammar_model.specs.Terminal.{Terminal, is_word}
use Rattle.sql_reader.proofs.OtherWords.{decided, with_more}
use Rattle.sql_reader.proofs.Choices.{or_else, or_nothing, word_right, mark_right, pure_right, word_tests, mark_tests, or_none}
use Rattle.sql_reader.proofs.Heads.{AWord, AMark, AName, ASlot, among}
use Rattle.sql_reader.proofs.Joins.{and_then}
use Rattle.sql_reader.proofs.Leaves.{name_right}
use Rattle.sql_reader.proofs.ReaderRight.{Right}
use Rattle.sql_reader.proofs.Rules.Queries.{items_or_all}
use Rattle.sql_reader.proofs.Rules.Values.{col_right}
use Rattle.sql_reader.proofs.Rules.Slots.{item_behind_right, all_items_right}
use Rattle.grammar_model.specs.Parts.{is_there}
use Rattle.sql_reader.proofs.Lifts.{lift, Fair}

module _ (lifts : LimitName → Bool) (limits : Limits) (fair : Fair limits) where
  or_last : (a b : Bool) → (a || b) ≡ (a || (b || false))
  or_last true b = refl
  or_last false b = or_none b

  -- what tests the terminal at which a join begins
  join_tests : (terminal : Terminal) → (is_word (codes "INNER") terminal || is_word (codes "JOIN") terminal) ≡ among (AWord (codes "INNER") ∷ AWord (codes "JOIN") ∷ []) terminal
  join_tests terminal = or_last (is_word (codes "INNER") terminal) (is_word (codes "JOIN") terminal)

  -- gitem {, gitem}
  pub gitems_right :
      Right lifts (select_rules.listed limits) (select_rules.listed (lift lifts limits))
      (grammar.items (grammar.gitem limits) limits)
      (AName ∷ ASlot ∷ []) false (AMark (codes ",") ∷ AWord (codes "AS") ∷ AMark (codes ".") ∷ AMark (codes "(") ∷ [])
  unfolding select_rules.listed grammar.items
  gitems_right =
      with_more (AName ∷ ASlot ∷ []) false (AMark (codes ",") ∷ AWord (codes "AS") ∷ AMark (codes ".") ∷ AMark (codes "(") ∷ [])
      (and_then ((item_behind_right lifts limits fair) 0) (λ first.
      and_then (all_items_right lifts limits fair) (λ others. pure_right (first ∷ others)) refl) refl) refl (λ is. is) refl

  -- * | gitem {, gitem}
  pub items_rule_right :
      Right lifts (select_rules.items_rule limits) (select_rules.items_rule (lift lifts limits))
      (items_or_all limits)
      (AMark (codes "*") ∷ AName ∷ ASlot ∷ []) false (AMark (codes ",") ∷ AWord (codes "AS") ∷ AMark (codes ".") ∷ AMark (codes "(") ∷ [])
  unfolding select_rules.items_rule
  items_rule_right =
      or_else (mark_tests (codes "*"))
      (and_then (mark_right (codes "*")) (λ _. pure_right Items.Star) refl)
      (and_then gitems_right (λ found. pure_right (Items.Listed found)) refl) refl

  -- [INNER] JOIN name ON col = col
  pub join_rule_right :
      Right lifts (select_rules.join_rule limits) (select_rules.join_rule (lift lifts limits))
      (grammar.join limits)
      (AWord (codes "INNER") ∷ AWord (codes "JOIN") ∷ []) false (AMark (codes ".") ∷ [])
  unfolding select_rules.join_rule grammar.join
  join_rule_right =
      and_then (or_nothing (word_tests (codes "INNER")) (word_right (codes "INNER"))) (λ _.
      and_then (word_right (codes "JOIN")) (λ _.
      and_then (name_right lifts limits fair) (λ table.
      and_then (word_right (codes "ON")) (λ _.
      and_then (col_right lifts limits fair) (λ left.
      and_then (mark_right (codes "=")) (λ _.
      and_then (col_right lifts limits fair) (λ right. pure_right (record { table = table; left = left; right = right })) refl) refl) refl) refl) refl) refl) refl

  -- a join, where there is neither COUNT nor SUM
  pub joined_right : (found : Items) →
      Right lifts (select_rules.joined limits found) (select_rules.joined (lift lifts limits) found)
      (language.whether (is_plain found) (language.optional (grammar.join limits)) (language.pure None))
      (AWord (codes "INNER") ∷ AWord (codes "JOIN") ∷ []) true (AMark (codes ".") ∷ AWord (codes "INNER") ∷ AWord (codes "JOIN") ∷ [])
  unfolding select_rules.joined
  joined_right found =
      decided (is_plain found) (or_nothing join_tests join_rule_right)
      (with_more (AWord (codes "INNER") ∷ AWord (codes "JOIN") ∷ []) true (AMark (codes ".") ∷ AWord (codes "INNER") ∷ AWord (codes "JOIN") ∷ []) (pure_right None) refl (λ is. is) refl)

  -- a group, where there is no join
  pub grouped_by_right : (found : Items) → (join : Option Join) →
      Right lifts (select_rules.grouped_by limits found join) (select_rules.grouped_by (lift lifts limits) found join)
      (language.whether (is_listed found && not (is_there join)) (language.optional (language.word (codes "GROUP") >> language.word (codes "BY") >> grammar.col limits)) (language.pure None))
      (AWord (codes "GROUP") ∷ []) true (AMark (codes ".") ∷ AWord (codes "GROUP") ∷ [])
  unfolding select_rules.grouped_by
  grouped_by_right found join =
      decided (is_listed found && not (is_there join))
      (or_nothing (word_tests (codes "GROUP"))
      (and_then (and_then (word_right (codes "GROUP")) (λ _. word_right (codes "BY")) refl) (λ _. (col_right lifts limits fair)) refl))
      (with_more (AWord (codes "GROUP") ∷ []) true (AMark (codes ".") ∷ AWord (codes "GROUP") ∷ []) (pure_right None) refl (λ is. is) refl)

  -- [ASC | DESC]
  pub direction_right :
      Right lifts select_rules.direction select_rules.direction
      grammar.direction
      (AWord (codes "ASC") ∷ AWord (codes "DESC") ∷ []) true (AWord (codes "DESC") ∷ AWord (codes "ASC") ∷ [])
  unfolding select_rules.direction grammar.direction
  direction_right =
      or_else (word_tests (codes "ASC"))
      (and_then (word_right (codes "ASC")) (λ _. pure_right false) refl)
      (or_else (word_tests (codes "DESC")) (and_then (word_right (codes "DESC")) (λ _. pure_right true) refl) (pure_right false) refl) refl

  -- ORDER BY col [ASC | DESC]
  pub order_rule_right :
      Right lifts (select_rules.order_rule limits) (select_rules.order_rule (lift lifts limits))
      (grammar.order limits)
      (AWord (codes "ORDER") ∷ []) false (AWord (codes "DESC") ∷ AWord (codes "ASC") ∷ AMark (codes ".") ∷ [])
  unfolding select_rules.order_rule grammar.order
  order_rule_right =
      and_then (word_right (codes "ORDER")) (λ _.
      and_then (word_right (codes "BY")) (λ _.
      and_then (col_right lifts limits fair) (λ column.
      and_then direction_right (λ down. pure_right (record { column = column; down = down })) refl) refl) refl) refl

  -- [ORDER BY col [ASC | DESC]]
  pub ordered_right :
      Right lifts (select_rules.ordered limits) (select_rules.ordered (lift lifts limits))
      (language.optional (grammar.order limits))
      (AWord (codes "ORDER") ∷ []) true (AWord (codes "DESC") ∷ AWord (codes "ASC") ∷ AMark (codes ".") ∷ AWord (codes "ORDER") ∷ [])
  unfolding select_rules.ordered
  ordered_right = or_nothing (word_tests (codes "ORDER")) order_rule_right
