-- The rules of conditions, as they are read.
use Rattle.std.specs.Prelude.{ℕ, zero, suc, List, ◌∷◌, Option, codes, Err}
use Rattle.own_model.specs.declared.condition.Cmp.{Cmp}
use Rattle.own_model.specs.declared.condition.Cmp.TheVariants as cmp
use Rattle.own_model.specs.declared.condition.Cond.{Cond}
use Rattle.own_model.specs.declared.condition.Cond.TheVariants as cond
use Rattle.own_model.specs.declared.condition.Operand.{Operand}
use Rattle.own_model.specs.declared.condition.Operand.TheVariants as operand
use Rattle.own_model.specs.declared.limit.LimitName.TheVariants as limit
use Rattle.own_model.specs.declared.select.ColRef.{ColRef}
use Rattle.sql_reader.specs.declared.fault.RuleFault.TheVariants.{Limit}
use Rattle.grammar_model.specs.Limits.{Limits}
use Rattle.grammar_model.specs.Parts.{is_there, list_of}
use Rattle.sql_reader.specs.reading.Reader.{Reader, ◌>>=◌, ◌>>◌, pure, either, optional, many}
use Rattle.sql_reader.specs.reading.Rules.{word, mark, col, literal}
use Rattle.grammar_model.specs.Terminal.{is_word, is_mark}
use Rattle.sql_reader.specs.reading.Judges.{is_name}

-- cmp = = | <> | != | < | <= | > | >=
unfoldable pub comparison_sign : Reader Cmp
comparison_sign =
    either (is_mark (codes "=")) (mark (codes "=") >> pure cmp.Eq)
    (either (is_mark (codes "<>")) (mark (codes "<>") >> pure cmp.Ne)
    (either (is_mark (codes "!=")) (mark (codes "!=") >> pure cmp.Ne)
    (either (is_mark (codes "<")) (mark (codes "<") >> pure cmp.Lt)
    (either (is_mark (codes "<=")) (mark (codes "<=") >> pure cmp.Le)
    (either (is_mark (codes ">")) (mark (codes ">") >> pure cmp.Gt)
    (mark (codes ">=") >> pure cmp.Ge))))))

-- col | literal
unfoldable pub operand_rule : Limits → Reader Operand
operand_rule limits =
    either is_name (col limits >>= λ found. pure (operand.Column found)) (literal limits >>= λ found. pure (operand.Literal found))

-- cmp (col | literal) | IS [NOT] NULL, after a column
unfoldable pub compared : Limits → ColRef → Reader Cond
compared limits column =
    either (is_word (codes "IS"))
    (do
      word (codes "IS")
      negated ← optional (is_word (codes "NOT")) (word (codes "NOT"))
      word (codes "NULL")
      pure (cond.IsNull column (is_there negated)))
    (do
      sign ← comparison_sign
      right ← operand_rule limits
      pure (cond.Compare column sign right))

-- col cmp (col | literal) | col IS [NOT] NULL
unfoldable pub comparison : Limits → Reader Cond
comparison limits = col limits >>= compared limits

-- neg {AND neg}
unfoldable pub conj_parts : Reader Cond → Reader (List Cond)
conj_parts neg = do
  first ← neg
  others ← many (is_word (codes "AND")) (word (codes "AND") >> neg)
  pure (first ∷ others)

-- conj = neg {AND neg}
unfoldable pub conj_over : Reader Cond → Reader Cond
conj_over neg = conj_parts neg >>= λ parts. pure (list_of cond.Every parts)

-- conj {OR conj}
unfoldable pub cond_parts : Reader Cond → Reader (List Cond)
cond_parts neg = do
  first ← conj_over neg
  others ← many (is_word (codes "OR")) (word (codes "OR") >> conj_over neg)
  pure (first ∷ others)

-- cond = conj {OR conj}
unfoldable pub cond_over : Reader Cond → Reader Cond
cond_over neg = cond_parts neg >>= λ parts. pure (list_of cond.Some1 parts)

-- a level too many
abbrev pub too_deep : Reader Cond
too_deep terminals = Err (Limit limit.Nesting, terminals)

-- neg = NOT neg | col cmp (col | literal) | col IS [NOT] NULL | ( cond ), with that many levels of NOT and brackets
unfoldable pub neg : Limits → ℕ → Reader Cond
neg limits zero =
    either (is_word (codes "NOT")) too_deep (either (is_mark (codes "(")) too_deep (comparison limits))
neg limits (suc levels) =
    either (is_word (codes "NOT")) (word (codes "NOT") >> neg limits levels >>= λ inner. pure (cond.Not inner))
    (either (is_mark (codes "(")) (do
      mark (codes "(")
      inner ← cond_over (neg limits levels)
      mark (codes ")")
      pure inner)
    (comparison limits))

-- a condition with that many levels
unfoldable pub cond_rule : Limits → ℕ → Reader Cond
cond_rule limits levels = cond_over (neg limits levels)

-- [WHERE cond]
unfoldable pub condition : Limits → ℕ → Reader (Option Cond)
condition limits levels = optional (is_word (codes "WHERE")) (word (codes "WHERE") >> cond_rule limits levels)
