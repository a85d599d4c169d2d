-- What the reading rules give for all terminals of a text.
use Rattle.std.specs.Prelude.{[], ◌∷◌, Ok, Err}
use Rattle.own_model.specs.declared.limit.TheConstants.{NESTING_LEVELS}
use Rattle.own_model.specs.declared.statement.Statement.{Statement}
use Rattle.sql_reader.specs.declared.fault.RuleFault.TheVariants as fault
use Rattle.grammar_model.specs.Limits.{store_limits}
use Rattle.sql_reader.specs.reading.Reader.{Reader, pure, ◌>>=◌, ◌>>◌}
use Rattle.sql_reader.specs.reading.Statements.{statement_rule}

-- nothing comes any more
abbrev pub ended : Reader (Unit {0})
ended [] = Ok (tt, [])
ended (terminal ∷ rest) = Err (fault.Syntax, terminal ∷ rest)

-- a statement, and nothing after it
unfoldable pub whole : Reader Statement
whole = do
  found ← statement_rule store_limits NESTING_LEVELS
  ended
  pure found
