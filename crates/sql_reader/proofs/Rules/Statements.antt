-- The rules of statements.
use Rattle.std.proofs.Common.{ℕ, Bool, true, false, List, [], ◌∷◌, refl, codes}
use Rattle.std.specs.Prelude.{None}
use Rattle.own_base.specs.declared.value.Key.TheVariants as Key
use Rattle.own_model.specs.declared.limit.LimitName.{LimitName}
use Rattle.own_model.specs.declared.statement.Statement.TheVariants as Statement
use Rattle.grammar_model.specs.Grammar as grammar
use Rattle.grammar_model.specs.Language as language
use Rattle.grammar_model.specs.Language.{Language, ◌>>=◌, ◌>>◌, ◌or◌}
use Rattle.grammar_model.specs.Limits.{Limits}
use Rattle.sql_reader.specs.reading.Condition as condition_rules
use Rattle.sql_reader.specs.reading.Create as create_rules
use Rattle.sql_reader.specs.reading.Select as select_rules
use Rattle.sql_reader.specs.reading.Statements as statement_rules
use Rattle.sql_reader.specs.reading.Select.{is_plain, is_listed}
use Rattle.sql_reader.proofs.OtherWords.{as_often, with_more, in_words}
use Rattle.sql_reader.proofs.Choices.{or_else, or_nothing, word_right, mark_right, pure_right, word_tests, mark_tests, quoted_tests}
use Rattle.sql_reader.proofs.Heads.{Head, AWord, AMark, AName, ANumber, AQuoted}
use Rattle.sql_reader.proofs.Joins.{and_then}
use Rattle.sql_reader.proofs.Leaves.{name_right, text_right}
use Rattle.sql_reader.proofs.ReaderRight.{Right}
use Rattle.sql_reader.proofs.Rules.Queries.{query_to, query_from}
use Rattle.sql_reader.proofs.Rules.Kinds.{view_after, create_either, statement_to, statement_from}
use Rattle.sql_reader.proofs.Rules.Values.{int_right, bracketed_names_right, tuple_right, expr_right}
use Rattle.sql_reader.proofs.Rules.Lists.{cond_over_right}
use Rattle.sql_reader.proofs.Rules.Creates.{table_right}
use Rattle.sql_reader.proofs.Rules.Selects.{items_rule_right, joined_right, grouped_by_right, ordered_right}
use Rattle.sql_reader.proofs.Lifts.{lift, Fair}

-- the terminals at which a statement begins, and what might go on with it
abbrev pub begins_statement : List Head
begins_statement = AWord (codes "CREATE") ∷ AWord (codes "SELECT") ∷ AWord (codes "INSERT") ∷ AWord (codes "UPDATE") ∷ AWord (codes "DELETE") ∷ AWord (codes "GDPR") ∷ AWord (codes "BEGIN") ∷ AWord (codes "COMMIT") ∷ AWord (codes "ROLLBACK") ∷ AWord (codes "CTX") ∷ AWord (codes "CHECKPOINT") ∷ AWord (codes "EXPLAIN") ∷ []

abbrev pub after_statement : List Head
after_statement = AMark (codes ".") ∷ AWord (codes "GROUP") ∷ AWord (codes "OR") ∷ AWord (codes "AND") ∷ AWord (codes "WHERE") ∷ AWord (codes "INNER") ∷ AWord (codes "JOIN") ∷ AWord (codes "DESC") ∷ AWord (codes "ASC") ∷ AWord (codes "ORDER") ∷ AMark (codes ",") ∷ AMark (codes "-") ∷ AMark (codes "+") ∷ AWord (codes "TRANSACTION") ∷ []

module _ (lifts : LimitName → Bool) (limits : Limits) (fair : Fair limits) (levels deep : ℕ) (neg : Right lifts (condition_rules.neg limits levels) (condition_rules.neg (lift lifts limits) deep) (grammar.neg limits levels) (AWord (codes "NOT") ∷ AMark (codes "(") ∷ AName ∷ []) false (AMark (codes ".") ∷ [])) where
  -- a condition
  pub cond_rule_right :
      Right lifts (condition_rules.cond_rule limits levels) (condition_rules.cond_rule (lift lifts limits) deep)
      (grammar.cond (grammar.neg limits levels))
      (AWord (codes "NOT") ∷ AMark (codes "(") ∷ AName ∷ []) false (AWord (codes "OR") ∷ AWord (codes "AND") ∷ AMark (codes ".") ∷ [])
  unfolding condition_rules.cond_rule
  cond_rule_right = cond_over_right lifts (condition_rules.neg limits levels) (condition_rules.neg (lift lifts limits) deep) (grammar.neg limits levels) neg

  -- [WHERE cond]
  pub condition_right :
      Right lifts (condition_rules.condition limits levels) (condition_rules.condition (lift lifts limits) deep)
      (grammar.condition limits levels)
      (AWord (codes "WHERE") ∷ []) true (AWord (codes "OR") ∷ AWord (codes "AND") ∷ AMark (codes ".") ∷ AWord (codes "WHERE") ∷ [])
  unfolding condition_rules.condition grammar.condition
  condition_right = or_nothing (word_tests (codes "WHERE")) (and_then (word_right (codes "WHERE")) (λ _. cond_rule_right) refl)

  -- plain | grouped
  pub query_right :
      Right lifts (select_rules.query limits levels) (select_rules.query (lift lifts limits) deep)
      (grammar.plain limits levels or grammar.grouped limits levels)
      (AWord (codes "SELECT") ∷ []) false (AMark (codes ".") ∷ AWord (codes "GROUP") ∷ AWord (codes "OR") ∷ AWord (codes "AND") ∷ AWord (codes "WHERE") ∷ AWord (codes "INNER") ∷ AWord (codes "JOIN") ∷ [])
  unfolding select_rules.query
  query_right =
      in_words (grammar.plain limits levels or grammar.grouped limits levels) (query_to limits levels) (query_from limits levels)
      (with_more (AWord (codes "SELECT") ∷ []) false (AMark (codes ".") ∷ AWord (codes "GROUP") ∷ AWord (codes "OR") ∷ AWord (codes "AND") ∷ AWord (codes "WHERE") ∷ AWord (codes "INNER") ∷ AWord (codes "JOIN") ∷ [])
      (and_then (word_right (codes "SELECT")) (λ _.
      and_then (items_rule_right lifts limits fair) (λ found.
      and_then (word_right (codes "FROM")) (λ _.
      and_then (name_right lifts limits fair) (λ from.
      and_then ((joined_right lifts limits fair) found) (λ join.
      and_then condition_right (λ cond.
      and_then ((grouped_by_right lifts limits fair) found join) (λ group.
      pure_right (record { items = found; from = from; join = join; cond = cond; group = group; order = None })) refl) refl) refl) refl) refl) refl) refl) refl (λ is. is) refl)

  -- (plain | grouped) [ORDER BY col [ASC | DESC]]
  pub select_right :
      Right lifts (select_rules.select limits levels) (select_rules.select (lift lifts limits) deep)
      (grammar.select limits levels)
      (AWord (codes "SELECT") ∷ []) false (AWord (codes "DESC") ∷ AWord (codes "ASC") ∷ AMark (codes ".") ∷ AWord (codes "ORDER") ∷ AWord (codes "GROUP") ∷ AWord (codes "OR") ∷ AWord (codes "AND") ∷ AWord (codes "WHERE") ∷ AWord (codes "INNER") ∷ AWord (codes "JOIN") ∷ [])
  unfolding select_rules.select grammar.select
  select_right =
      with_more (AWord (codes "SELECT") ∷ []) false (AWord (codes "DESC") ∷ AWord (codes "ASC") ∷ AMark (codes ".") ∷ AWord (codes "ORDER") ∷ AWord (codes "GROUP") ∷ AWord (codes "OR") ∷ AWord (codes "AND") ∷ AWord (codes "WHERE") ∷ AWord (codes "INNER") ∷ AWord (codes "JOIN") ∷ [])
      (and_then query_right (λ found. and_then (ordered_right lifts limits fair) (λ order. pure_right (record found { order = order })) refl) refl) refl (λ is. is) refl

  -- VIEW name AS (plain | grouped)
  pub view_right :
      Right lifts (create_rules.view limits levels) (create_rules.view (lift lifts limits) deep)
      (view_after limits levels)
      (AWord (codes "VIEW") ∷ []) false (AMark (codes ".") ∷ AWord (codes "GROUP") ∷ AWord (codes "OR") ∷ AWord (codes "AND") ∷ AWord (codes "WHERE") ∷ AWord (codes "INNER") ∷ AWord (codes "JOIN") ∷ [])
  unfolding create_rules.view
  view_right =
      and_then (word_right (codes "VIEW")) (λ _.
      and_then (name_right lifts limits fair) (λ found.
      and_then (word_right (codes "AS")) (λ _. and_then query_right (λ select. pure_right (record { name = found; select = select })) refl) refl) refl) refl

  -- CREATE
  pub create_right :
      Right lifts (create_rules.create limits levels) (create_rules.create (lift lifts limits) deep)
      (create_either limits levels)
      (AWord (codes "CREATE") ∷ []) false (AMark (codes ".") ∷ AWord (codes "GROUP") ∷ AWord (codes "OR") ∷ AWord (codes "AND") ∷ AWord (codes "WHERE") ∷ AWord (codes "INNER") ∷ AWord (codes "JOIN") ∷ [])
  unfolding create_rules.create
  create_right =
      and_then (word_right (codes "CREATE")) (λ _.
      or_else (word_tests (codes "VIEW"))
      (and_then view_right (λ found. pure_right (Statement.CreateView found)) refl)
      (and_then (table_right lifts limits fair) (λ found. pure_right (Statement.CreateTable found)) refl) refl) refl

  -- tuple {, tuple}
  pub tuples_right :
      Right lifts (statement_rules.tuples limits) (statement_rules.tuples (lift lifts limits))
      (language.listed (grammar.tuple limits))
      (AMark (codes "(") ∷ []) false (AMark (codes ",") ∷ [])
  unfolding statement_rules.tuples
  tuples_right =
      and_then (tuple_right lifts limits fair) (λ first.
      and_then (as_often (mark_tests (codes ",")) (and_then (mark_right (codes ",")) (λ _. (tuple_right lifts limits fair)) refl) refl) (λ others.
      pure_right (first ∷ others)) refl) refl

  -- [( names )]
  pub columns_right :
      Right lifts (statement_rules.columns limits) (statement_rules.columns (lift lifts limits))
      (language.optional (language.bracketed (grammar.names limits)))
      (AMark (codes "(") ∷ []) true (AMark (codes "(") ∷ [])
  unfolding statement_rules.columns
  columns_right = or_nothing (mark_tests (codes "(")) (bracketed_names_right lifts limits fair)

  -- INSERT INTO name [( names )] VALUES tuple {, tuple}
  pub insert_right :
      Right lifts (statement_rules.insert limits) (statement_rules.insert (lift lifts limits))
      (grammar.insert limits)
      (AWord (codes "INSERT") ∷ []) false (AMark (codes ",") ∷ [])
  unfolding statement_rules.insert grammar.insert
  insert_right =
      and_then (word_right (codes "INSERT")) (λ _.
      and_then (word_right (codes "INTO")) (λ _.
      and_then (name_right lifts limits fair) (λ table.
      and_then columns_right (λ named.
      and_then (word_right (codes "VALUES")) (λ _. and_then tuples_right (λ rows. pure_right (Statement.Insert table named rows)) refl) refl) refl) refl) refl) refl

  -- name = expr
  pub set_right :
      Right lifts (statement_rules.set limits) (statement_rules.set (lift lifts limits))
      (grammar.set limits)
      (AName ∷ []) false (AMark (codes "-") ∷ AMark (codes "+") ∷ [])
  unfolding statement_rules.set grammar.set
  set_right =
      and_then (name_right lifts limits fair) (λ column.
      and_then (mark_right (codes "=")) (λ _. and_then (expr_right lifts limits fair) (λ value. pure_right (column, value)) refl) refl) refl

  -- name = expr {, name = expr}
  pub sets_right :
      Right lifts (statement_rules.sets limits) (statement_rules.sets (lift lifts limits))
      (language.listed (grammar.set limits))
      (AName ∷ []) false (AMark (codes ",") ∷ AMark (codes "-") ∷ AMark (codes "+") ∷ [])
  unfolding statement_rules.sets
  sets_right =
      with_more (AName ∷ []) false (AMark (codes ",") ∷ AMark (codes "-") ∷ AMark (codes "+") ∷ [])
      (and_then set_right (λ first.
      and_then (as_often (mark_tests (codes ",")) (and_then (mark_right (codes ",")) (λ _. set_right) refl) refl) (λ others.
      pure_right (first ∷ others)) refl) refl) refl (λ is. is) refl

  -- UPDATE name SET name = expr {, name = expr} [WHERE cond]
  pub update_right :
      Right lifts (statement_rules.update limits levels) (statement_rules.update (lift lifts limits) deep)
      (grammar.update limits levels)
      (AWord (codes "UPDATE") ∷ []) false (AWord (codes "OR") ∷ AWord (codes "AND") ∷ AMark (codes ".") ∷ AWord (codes "WHERE") ∷ AMark (codes ",") ∷ AMark (codes "-") ∷ AMark (codes "+") ∷ [])
  unfolding statement_rules.update grammar.update
  update_right =
      and_then (word_right (codes "UPDATE")) (λ _.
      and_then (name_right lifts limits fair) (λ table.
      and_then (word_right (codes "SET")) (λ _.
      and_then sets_right (λ all. and_then condition_right (λ cond. pure_right (Statement.Update table all cond)) refl) refl) refl) refl) refl

  -- DELETE FROM name [WHERE cond]
  pub delete_right :
      Right lifts (statement_rules.delete limits levels) (statement_rules.delete (lift lifts limits) deep)
      (grammar.delete limits levels)
      (AWord (codes "DELETE") ∷ []) false (AWord (codes "OR") ∷ AWord (codes "AND") ∷ AMark (codes ".") ∷ AWord (codes "WHERE") ∷ [])
  unfolding statement_rules.delete grammar.delete
  delete_right =
      and_then (word_right (codes "DELETE")) (λ _.
      and_then (word_right (codes "FROM")) (λ _.
      and_then (name_right lifts limits fair) (λ table. and_then condition_right (λ cond. pure_right (Statement.Delete table cond)) refl) refl) refl) refl

  -- CTX START | CTX COMMIT | CTX ROLLBACK
  pub context_right :
      Right lifts statement_rules.context statement_rules.context
      (language.word (codes "CTX") >> ((language.word (codes "START") >> language.pure Statement.Begin) or ((language.word (codes "COMMIT") >> language.pure Statement.Commit) or (language.word (codes "ROLLBACK") >> language.pure Statement.Rollback))))
      (AWord (codes "CTX") ∷ []) false []
  unfolding statement_rules.context
  context_right =
      and_then (word_right (codes "CTX")) (λ _.
      or_else (word_tests (codes "START"))
      (and_then (word_right (codes "START")) (λ _. pure_right Statement.Begin) refl)
      (or_else (word_tests (codes "COMMIT"))
      (and_then (word_right (codes "COMMIT")) (λ _. pure_right Statement.Commit) refl)
      (and_then (word_right (codes "ROLLBACK")) (λ _. pure_right Statement.Rollback) refl) refl) refl) refl

  -- BEGIN [TRANSACTION]
  pub begin_right :
      Right lifts statement_rules.begin statement_rules.begin
      (language.word (codes "BEGIN") >> language.optional (language.word (codes "TRANSACTION")) >> language.pure Statement.Begin)
      (AWord (codes "BEGIN") ∷ []) false (AWord (codes "TRANSACTION") ∷ [])
  unfolding statement_rules.begin
  begin_right =
      and_then (
      and_then (word_right (codes "BEGIN")) (λ _. or_nothing (word_tests (codes "TRANSACTION")) (word_right (codes "TRANSACTION"))) refl) (λ _.
      pure_right Statement.Begin) refl

  -- control
  pub control_right :
      Right lifts statement_rules.control statement_rules.control
      grammar.control
      (AWord (codes "BEGIN") ∷ AWord (codes "COMMIT") ∷ AWord (codes "ROLLBACK") ∷ AWord (codes "CTX") ∷ AWord (codes "CHECKPOINT") ∷ AWord (codes "EXPLAIN") ∷ []) false (AWord (codes "TRANSACTION") ∷ [])
  unfolding statement_rules.control grammar.control
  control_right =
      or_else (word_tests (codes "BEGIN")) begin_right
      (or_else (word_tests (codes "COMMIT"))
      (and_then (word_right (codes "COMMIT")) (λ _. pure_right Statement.Commit) refl)
      (or_else (word_tests (codes "ROLLBACK"))
      (and_then (word_right (codes "ROLLBACK")) (λ _. pure_right Statement.Rollback) refl)
      (or_else (word_tests (codes "CTX")) context_right
      (or_else (word_tests (codes "CHECKPOINT"))
      (and_then (word_right (codes "CHECKPOINT")) (λ _. pure_right Statement.Checkpoint) refl)
      (and_then (and_then (word_right (codes "EXPLAIN")) (λ _. word_right (codes "COMPLIANCE")) refl) (λ _.
      pure_right Statement.Explain) refl) refl) refl) refl) refl) refl

  -- int | text
  pub key_rule_right :
      Right lifts (statement_rules.key_rule limits) (statement_rules.key_rule (lift lifts limits))
      (grammar.key limits)
      (AQuoted ∷ AMark (codes "-") ∷ ANumber ∷ []) false []
  unfolding statement_rules.key_rule grammar.key
  key_rule_right =
      or_else quoted_tests
      (and_then (text_right lifts limits fair) (λ found. pure_right (Key.Text found)) refl)
      (and_then (int_right lifts limits fair) (λ found. pure_right (Key.Int found)) refl) refl

  -- GDPR (GET | FORGET) name (int | text)
  pub gdpr_right :
      Right lifts (statement_rules.gdpr limits) (statement_rules.gdpr (lift lifts limits))
      (grammar.gdpr limits)
      (AWord (codes "GDPR") ∷ []) false []
  unfolding statement_rules.gdpr grammar.gdpr
  gdpr_right =
      and_then (word_right (codes "GDPR")) (λ _.
      or_else (word_tests (codes "GET"))
      (and_then (word_right (codes "GET")) (λ _.
      and_then (name_right lifts limits fair) (λ table. and_then key_rule_right (λ found. pure_right (Statement.GdprGet table found)) refl) refl) refl)
      (and_then (word_right (codes "FORGET")) (λ _.
      and_then (name_right lifts limits fair) (λ table.
      and_then key_rule_right (λ found. pure_right (Statement.GdprForget table found)) refl) refl) refl) refl) refl

  -- a statement
  pub statement_rule_right :
      Right lifts (statement_rules.statement_rule limits levels) (statement_rules.statement_rule (lift lifts limits) deep)
      (grammar.statement limits levels)
      begins_statement false after_statement
  unfolding statement_rules.statement_rule
  statement_rule_right =
      in_words (grammar.statement limits levels) (statement_to limits levels) (statement_from limits levels)
      (with_more begins_statement false after_statement
      (or_else (word_tests (codes "CREATE")) create_right
      (or_else (word_tests (codes "SELECT"))
      (and_then select_right (λ found. pure_right (Statement.Select found)) refl)
      (or_else (word_tests (codes "INSERT")) insert_right
      (or_else (word_tests (codes "UPDATE")) update_right
      (or_else (word_tests (codes "DELETE")) delete_right
      (or_else (word_tests (codes "GDPR")) gdpr_right control_right refl) refl) refl) refl) refl) refl) refl (λ is. is) refl)
