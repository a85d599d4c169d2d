-- What a result tells of a text.
use Rattle.std.specs.Prelude.{ℕ, Option, None, Some, Result, Ok, Err}
use Rattle.own_model.specs.declared.statement.Statement.{Statement}
use Rattle.grammar_model.specs.Answer.{Answer, GivesStatement, StopsAt, PassesLimit}
use Rattle.sql_reader.specs.declared.fault.ReadFault.{ReadFault}
use Rattle.sql_reader.specs.declared.fault.ReadFault.TheVariants.{Syntax, Limit, Memory}
use Rattle.sql_reader.specs.declared.fault.RuleFault.{RuleFault}
use Rattle.sql_reader.specs.declared.fault.RuleFault.TheVariants as rule

-- the answer that the result is; where memory is refused it is none
abbrev pub answer_of : Result Statement ReadFault → Option Answer
answer_of (Ok found) = Some (GivesStatement found)
answer_of (Err (Syntax byte)) = Some (StopsAt byte)
answer_of (Err (Limit name)) = Some (PassesLimit name)
answer_of (Err Memory) = None

-- a fault of a rule as one of a text, of which a statement is read up to a byte
abbrev pub read_fault : RuleFault → ℕ → ReadFault
read_fault rule.Memory byte = Memory
read_fault (rule.Limit name) byte = Limit name
read_fault rule.Syntax byte = Syntax byte
