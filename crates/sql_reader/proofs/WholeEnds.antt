-- Nothing is left after a whole statement.
use Rattle.std.proofs.Common.{◌≡◌, [], ◌∷◌, Ok, Err, sym, ap}
use Rattle.own_model.specs.declared.limit.TheConstants.{NESTING_LEVELS}
use Rattle.own_model.specs.declared.statement.Statement.{Statement}
use Rattle.grammar_model.specs.Limits.{store_limits}
use Rattle.sql_reader.specs.reading.Whole.{ended, whole}
use Rattle.grammar_model.specs.Terminal.{Terminals}
use Rattle.sql_reader.specs.reading.Reader.{Reading, then_read, pure, ◌>>◌}
use Rattle.sql_reader.specs.reading.Statements.{statement_rule}

-- the terminals after what was read
abbrev rest_of : Reading Statement → Terminals
rest_of (Ok (read, rest)) = rest
rest_of (Err fault) = []

ends : (outcome : Reading Statement) (found : Statement) (rest : Terminals) → then_read outcome (λ read. ended >> pure read) ≡ Ok (found, rest) → rest ≡ []
ends (Ok (read, [])) found rest same = sym (ap rest_of same)
ends (Ok (read, terminal ∷ terminals)) found rest same = cc
ends (Err fault) found rest same = cc

pub whole-ends : (terminals : Terminals) (found : Statement) (rest : Terminals) → whole terminals ≡ Ok (found, rest) → rest ≡ []
unfolding whole
whole-ends terminals found rest same = ends (statement_rule store_limits NESTING_LEVELS terminals) found rest same
