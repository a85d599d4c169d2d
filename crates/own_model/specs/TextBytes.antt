-- The bytes of the texts that a request puts into rows.
use Rattle.std.specs.Prelude.{ℕ, List, length, sum_by}
use Rattle.own_base.specs.declared.value.Value.{Value}
use Rattle.own_base.specs.declared.value.Value.TheVariants.{Null, Int, Text, Sum}
use Rattle.own_model.specs.declared.request.Request.{Request}
use Rattle.own_model.specs.declared.request.Request.TheVariants.{Run, Syntax, Limit, End}
use Rattle.own_model.specs.declared.statement.Statement.{Statement}
use Rattle.own_model.specs.declared.statement.Statement.TheVariants.{Insert}

-- those of a text; any other value has none
abbrev pub text_bytes : Value → ℕ
text_bytes (Text bytes) = length bytes
text_bytes Null = 0
text_bytes (Int number) = 0
text_bytes (Sum number) = 0

-- those of all values of a tuple
abbrev pub tuple_bytes : List Value → ℕ
tuple_bytes values = sum_by text_bytes values

-- those that a statement puts: an INSERT's, of all its tuples
unfoldable pub put_bytes : Statement → ℕ
put_bytes (Insert table columns rows) = sum_by tuple_bytes rows
put_bytes _ = 0

-- those that a request puts
unfoldable pub asked_bytes : Request → ℕ
asked_bytes (Run statement) = put_bytes statement
asked_bytes (Syntax byte) = 0
asked_bytes (Limit passed) = 0
asked_bytes End = 0
