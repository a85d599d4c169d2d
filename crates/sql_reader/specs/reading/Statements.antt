-- The rules of statements, as they are read.
use Rattle.std.specs.Prelude.{ℕ, List, ◌∷◌, Option, codes}
use Rattle.own_base.specs.declared.value.Key.{Key}
use Rattle.own_base.specs.declared.value.Key.TheVariants as key
use Rattle.own_base.specs.declared.value.Value.{Value}
use Rattle.own_model.specs.declared.expression.Expr.{Expr}
use Rattle.own_model.specs.declared.statement.Statement.{Statement}
use Rattle.own_model.specs.declared.statement.Statement.TheVariants as statement
use Rattle.sql_reader.specs.reading.Condition.{condition}
use Rattle.sql_reader.specs.reading.Create.{create}
use Rattle.grammar_model.specs.Limits.{Limits}
use Rattle.sql_reader.specs.reading.Reader.{Reader, ◌>>=◌, ◌>>◌, pure, either, optional, many}
use Rattle.sql_reader.specs.reading.Rules.{word, mark, name, text, int, bracketed_names, tuple, expr_rule}
use Rattle.sql_reader.specs.reading.Select.{select}
use Rattle.grammar_model.specs.Terminal.{is_word, is_mark}
use Rattle.sql_reader.specs.reading.Judges.{is_quoted}

-- tuple {, tuple}
unfoldable pub tuples : Limits → Reader (List (List Value))
tuples limits = do
  first ← tuple limits
  others ← many (is_mark (codes ",")) (mark (codes ",") >> tuple limits)
  pure (first ∷ others)

-- [( names )]
unfoldable pub columns : Limits → Reader (Option (List (List ℕ)))
columns limits = optional (is_mark (codes "(")) (bracketed_names limits)

-- insert = INSERT INTO name [( names )] VALUES tuple {, tuple}
unfoldable pub insert : Limits → Reader Statement
insert limits = do
  word (codes "INSERT")
  word (codes "INTO")
  table ← name limits
  named ← columns limits
  word (codes "VALUES")
  rows ← tuples limits
  pure (statement.Insert table named rows)

-- name = expr
unfoldable pub set : Limits → Reader (List ℕ × Expr)
set limits = do
  column ← name limits
  mark (codes "=")
  value ← expr_rule limits
  pure (column, value)

-- name = expr {, name = expr}
unfoldable pub sets : Limits → Reader (List (List ℕ × Expr))
sets limits = do
  first ← set limits
  others ← many (is_mark (codes ",")) (mark (codes ",") >> set limits)
  pure (first ∷ others)

-- update = UPDATE name SET name = expr {, name = expr} [WHERE cond]
unfoldable pub update : Limits → ℕ → Reader Statement
update limits levels = do
  word (codes "UPDATE")
  table ← name limits
  word (codes "SET")
  all ← sets limits
  cond ← condition limits levels
  pure (statement.Update table all cond)

-- delete = DELETE FROM name [WHERE cond]
unfoldable pub delete : Limits → ℕ → Reader Statement
delete limits levels = do
  word (codes "DELETE")
  word (codes "FROM")
  table ← name limits
  cond ← condition limits levels
  pure (statement.Delete table cond)

-- CTX START | CTX COMMIT | CTX ROLLBACK
unfoldable pub context : Reader Statement
context = word (codes "CTX") >> either (is_word (codes "START")) (word (codes "START") >> pure statement.Begin)
    (either (is_word (codes "COMMIT")) (word (codes "COMMIT") >> pure statement.Commit)
    (word (codes "ROLLBACK") >> pure statement.Rollback))

-- BEGIN [TRANSACTION]
unfoldable pub begin : Reader Statement
begin = word (codes "BEGIN") >> optional (is_word (codes "TRANSACTION")) (word (codes "TRANSACTION")) >> pure statement.Begin

-- control = BEGIN [TRANSACTION] | COMMIT | ROLLBACK | CTX START | CTX COMMIT | CTX ROLLBACK | CHECKPOINT
--         | EXPLAIN COMPLIANCE
unfoldable pub control : Reader Statement
control =
    either (is_word (codes "BEGIN")) begin
    (either (is_word (codes "COMMIT")) (word (codes "COMMIT") >> pure statement.Commit)
    (either (is_word (codes "ROLLBACK")) (word (codes "ROLLBACK") >> pure statement.Rollback)
    (either (is_word (codes "CTX")) context
    (either (is_word (codes "CHECKPOINT")) (word (codes "CHECKPOINT") >> pure statement.Checkpoint)
    (word (codes "EXPLAIN") >> word (codes "COMPLIANCE") >> pure statement.Explain)))))

-- int | text
unfoldable pub key_rule : Limits → Reader Key
key_rule limits = either is_quoted (text limits >>= λ found. pure (key.Text found)) (int >>= λ found. pure (key.Int found))

-- gdpr = GDPR (GET | FORGET) name (int | text)
unfoldable pub gdpr : Limits → Reader Statement
gdpr limits = word (codes "GDPR") >> either (is_word (codes "GET"))
    (do
      word (codes "GET")
      table ← name limits
      found ← key_rule limits
      pure (statement.GdprGet table found))
    (do
      word (codes "FORGET")
      table ← name limits
      found ← key_rule limits
      pure (statement.GdprForget table found))

-- a statement
unfoldable pub statement_rule : Limits → ℕ → Reader Statement
statement_rule limits levels =
    either (is_word (codes "CREATE")) (create limits levels)
    (either (is_word (codes "SELECT")) (select limits levels >>= λ found. pure (statement.Select found))
    (either (is_word (codes "INSERT")) (insert limits)
    (either (is_word (codes "UPDATE")) (update limits levels)
    (either (is_word (codes "DELETE")) (delete limits levels)
    (either (is_word (codes "GDPR")) (gdpr limits) control)))))
