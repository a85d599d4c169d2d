-- The rules of statements.
use Rattle.std.proofs.Common.{ℕ, refl, inl, inr, codes}
use Rattle.own_model.specs.declared.statement.Statement.TheVariants as Statement
use Rattle.sql_lex.specs.Keywords.{keywords}
use Rattle.grammar_model.specs.Grammar as grammar
use Rattle.grammar_model.specs.Limits.{Limits}
use Rattle.grammar_model.specs.Language.{◌>>◌, optional, pure, word}
use Rattle.text_model.specs.Canonical.{statement_words}
use Rattle.text_model.specs.Words as words
use Rattle.text_model.specs.Words.{Words}
use Rattle.sql_print.proofs.Spelling.{Writes, writes-so}
use Rattle.sql_print.proofs.Rewriting.{Rewrites, whole, either, both_into, into, ending, then_next, then_made, then_rule, then_skip, always, perhaps}
use Rattle.sql_print.proofs.NestedConditions.{condition}
use Rattle.sql_print.proofs.WrittenCreates.{create, view}
use Rattle.sql_print.proofs.WrittenLists.{with_commas, in_brackets}
use Rattle.sql_print.proofs.WrittenSelects.{select}
use Rattle.sql_print.proofs.WrittenTokens.{key, lone-writes, left_out, left_out-writes, name}
use Rattle.sql_print.proofs.WrittenValues.{names, tuple, set, data_key}

-- BEGIN as it is written
begin-writes : Writes (words.word (codes "BEGIN")) (grammar.control Statement.Begin)
unfolding grammar.control keywords
begin-writes =
    let begin = word (codes "BEGIN") >> optional (word (codes "TRANSACTION")) in
    writes-so (words.word (codes "BEGIN")) ((begin >> pure Statement.Begin) Statement.Begin) (grammar.control Statement.Begin) (λ out rest text. inl text)
    (left_out-writes (codes "BEGIN") (codes "TRANSACTION") (refl, refl) Statement.Begin)

-- COMMIT as it is written
commit-writes : Writes (words.word (codes "COMMIT")) (grammar.control Statement.Commit)
unfolding grammar.control keywords
commit-writes =
    writes-so (words.word (codes "COMMIT")) ((word (codes "COMMIT") >> pure Statement.Commit) Statement.Commit) (grammar.control Statement.Commit) (λ out rest text. inr (inl text))
    (lone-writes (codes "COMMIT") (refl, refl) Statement.Commit)

-- ROLLBACK as it is written
rollback-writes : Writes (words.word (codes "ROLLBACK")) (grammar.control Statement.Rollback)
unfolding grammar.control keywords
rollback-writes =
    writes-so (words.word (codes "ROLLBACK")) ((word (codes "ROLLBACK") >> pure Statement.Rollback) Statement.Rollback) (grammar.control Statement.Rollback) (λ out rest text. inr (inr (inl text)))
    (lone-writes (codes "ROLLBACK") (refl, refl) Statement.Rollback)

-- control, of which CTX and TRANSACTION are left out
control : Rewrites grammar.control grammar.control statement_words
unfolding grammar.control statement_words keywords
control =
    whole
    (both_into (into (λ value out rest text. inl text) (left_out (codes "BEGIN") (codes "TRANSACTION") (refl, refl) (refl, refl) refl))
    (both_into (into (λ value out rest text. inr (inl text)) (then_made (key (codes "COMMIT") (refl, refl)) (λ _. refl)))
    (both_into (into (λ value out rest text. inr (inr (inl text))) (then_made (key (codes "ROLLBACK") (refl, refl)) (λ _. refl)))
    (both_into (then_skip (key (codes "CTX") (refl, refl)) (λ _.
    both_into (then_skip (key (codes "START") (refl, refl)) (λ _. always (words.word (codes "BEGIN")) refl begin-writes))
    (both_into (then_skip (key (codes "COMMIT") (refl, refl)) (λ _. always (words.word (codes "COMMIT")) refl commit-writes))
    (then_skip (key (codes "ROLLBACK") (refl, refl)) (λ _. always (words.word (codes "ROLLBACK")) refl rollback-writes)))))
    (into (λ value out rest text. inr (inr (inr (inr text))))
    (either (then_made (key (codes "CHECKPOINT") (refl, refl)) (λ _. refl))
    (then_made (then_rule (key (codes "EXPLAIN") (refl, refl)) (key (codes "COMPLIANCE") (refl, refl))) (λ _. refl))))))))

module _ (limits : Limits) where
  -- DELETE FROM name [WHERE cond]
  delete : (levels : ℕ) → Rewrites (grammar.delete limits levels) (grammar.delete limits levels) statement_words
  unfolding grammar.delete statement_words keywords
  delete levels =
      whole (then_next (key (codes "DELETE") (refl, refl)) (λ _. then_next (key (codes "FROM") (refl, refl)) (λ _.
      then_next (name limits) (λ table. then_made (condition limits levels) (λ cond. refl)))))

  -- UPDATE name SET name = expr {, name = expr} [WHERE cond]
  update : (levels : ℕ) → Rewrites (grammar.update limits levels) (grammar.update limits levels) statement_words
  unfolding grammar.update statement_words keywords
  update levels =
      whole (then_next (key (codes "UPDATE") (refl, refl)) (λ _. then_next (name limits) (λ table. then_next (key (codes "SET") (refl, refl)) (λ _.
      then_next (with_commas (set limits)) (λ sets. then_made (condition limits levels) (λ cond. refl))))))

  -- INSERT INTO name [( names )] VALUES tuple {, tuple}
  insert : Rewrites (grammar.insert limits) (grammar.insert limits) statement_words
  unfolding grammar.insert statement_words keywords
  insert =
      whole (then_next (key (codes "INSERT") (refl, refl)) (λ _. then_next (key (codes "INTO") (refl, refl)) (λ _. then_next (name limits) (λ table.
      then_next (perhaps (in_brackets (names limits))) (λ columns. then_next (key (codes "VALUES") (refl, refl)) (λ _. then_made (with_commas (tuple limits)) (λ rows. refl)))))))

  -- GDPR (GET | FORGET) name (int | text)
  gdpr : Rewrites (grammar.gdpr limits) (grammar.gdpr limits) statement_words
  unfolding grammar.gdpr statement_words keywords
  gdpr =
      whole (then_next (key (codes "GDPR") (refl, refl)) (λ _.
      either
      (then_next (key (codes "GET") (refl, refl)) (λ _. then_next (name limits) (λ table. then_made (data_key limits) (λ found. refl))))
      (then_next (key (codes "FORGET") (refl, refl)) (λ _. then_next (name limits) (λ table. then_made (data_key limits) (λ found. refl))))))

  -- a statement
  pub statement : (levels : ℕ) → Rewrites (grammar.statement limits levels) (grammar.statement limits levels) statement_words
  unfolding grammar.statement statement_words
  statement levels =
      whole
      (either (ending (create limits) (λ _. refl))
      (either (ending (view limits levels) (λ _. refl))
      (either (then_made (select limits levels) (λ _. refl))
      (either (ending insert (λ _. refl))
      (either (ending (update levels) (λ _. refl))
      (either (ending (delete levels) (λ _. refl))
      (either (ending control (λ _. refl))
      (ending gdpr (λ _. refl)))))))))
