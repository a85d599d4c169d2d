-- The rules of which the statements are made, as they are read.
use Rattle.std.specs.Prelude.{ℕ, Bool, true, false, ℤ, List, ◌∷◌, codes}
use Rattle.own_base.specs.declared.value.Value.{Value}
use Rattle.own_base.specs.declared.value.Value.TheVariants as value
use Rattle.own_model.specs.declared.expression.Expr.{Expr}
use Rattle.own_model.specs.declared.expression.Expr.TheVariants as expr
use Rattle.own_model.specs.declared.select.ColRef.{ColRef}
use Rattle.grammar_model.specs.Limits.{Limits}
use Rattle.grammar_model.specs.Parts.{col_of}
use Rattle.sql_reader.specs.reading.Reader.{Reader, ◌>>=◌, ◌>>◌, pure, accept, passes, either, optional, many}
use Rattle.grammar_model.specs.Terminal.{is_word, is_mark}
use Rattle.sql_reader.specs.reading.Judges.{is_name, is_quoted, name_of, number_of, text_of}

abbrev pub word : List ℕ → Reader (Unit {0})
word wanted = accept (passes (is_word wanted))

abbrev pub mark : List ℕ → Reader (Unit {0})
mark wanted = accept (passes (is_mark wanted))

unfoldable pub name : Limits → Reader (List ℕ)
name limits = accept (name_of limits)

unfoldable pub number : Bool → Reader ℤ
number negative = accept (number_of negative)

unfoldable pub text : Limits → Reader (List ℕ)
text limits = accept (text_of limits)

-- int = [-] number
unfoldable pub int : Reader ℤ
int = either (is_mark (codes "-")) (mark (codes "-") >> number true) (number false)

-- names = name {, name}
unfoldable pub names : Limits → Reader (List (List ℕ))
names limits = do
  first ← name limits
  others ← many (is_mark (codes ",")) (mark (codes ",") >> name limits)
  pure (first ∷ others)

-- ( name )
unfoldable pub one_name : Limits → Reader (List ℕ)
one_name limits = do
  mark (codes "(")
  column ← name limits
  mark (codes ")")
  pure column

-- ( names )
unfoldable pub bracketed_names : Limits → Reader (List (List ℕ))
bracketed_names limits = do
  mark (codes "(")
  columns ← names limits
  mark (codes ")")
  pure columns

-- [. name], after a name
unfoldable pub col_after : Limits → List ℕ → Reader ColRef
col_after limits first = do
  second ← optional (is_mark (codes ".")) (mark (codes ".") >> name limits)
  pure (col_of first second)

-- col = name [. name]
unfoldable pub col : Limits → Reader ColRef
col limits = do
  first ← name limits
  col_after limits first

-- literal = NULL | int | text
unfoldable pub literal : Limits → Reader Value
literal limits =
    either (is_word (codes "NULL")) (word (codes "NULL") >> pure value.Null)
    (either is_quoted (text limits >>= λ found. pure (value.Text found))
    (int >>= λ found. pure (value.Int found)))

-- literal {, literal}
unfoldable pub values : Limits → Reader (List Value)
values limits = do
  first ← literal limits
  others ← many (is_mark (codes ",")) (mark (codes ",") >> literal limits)
  pure (first ∷ others)

-- tuple = ( literal {, literal} )
unfoldable pub tuple : Limits → Reader (List Value)
tuple limits = do
  mark (codes "(")
  all ← values limits
  mark (codes ")")
  pure all

-- name | name + int | name - int, after the name
unfoldable pub sum_after : List ℕ → Reader Expr
sum_after column =
    either (is_mark (codes "+")) (mark (codes "+") >> int >>= λ more. pure (expr.Plus column more))
    (either (is_mark (codes "-")) (mark (codes "-") >> int >>= λ less. pure (expr.Minus column less))
    (pure (expr.Column column)))

-- expr = literal | name | name + int | name - int
unfoldable pub expr_rule : Limits → Reader Expr
expr_rule limits =
    either is_name (name limits >>= sum_after) (literal limits >>= λ found. pure (expr.Literal found))
