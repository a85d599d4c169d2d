-- Which requests can stand in a history.
use Rattle.std.specs.Prelude.{ℕ, ◌≤◌, List, [], length, IsUtf8}
use Rattle.own_model.specs.declared.limit.LimitName.{LimitName}
use Rattle.own_model.specs.declared.limit.LimitName.TheVariants as limit
use Rattle.own_model.specs.declared.limit.TheConstants.{NESTING_LEVELS, STATEMENT_BYTES}
use Rattle.own_model.specs.declared.request.Request.{Request}
use Rattle.own_model.specs.declared.request.Request.TheVariants.{Run, Syntax, Limit, End}
use Rattle.own_model.specs.declared.statement.Statement.{Statement}
use Rattle.grammar_model.specs.Answer.{Answer, GivesStatement, StopsAt, PassesLimit}
use Rattle.grammar_model.specs.Grammar.{statement}
use Rattle.grammar_model.specs.Limits.{store_limits}
use Rattle.grammar_model.specs.Terminal.{Terminals}
use Rattle.grammar_model.specs.Terminals.{AreTerminals}

-- the grammar gives the statement for some text of at most that many bytes, which are UTF-8
pub record IsWritten (most : ℕ) (found : Statement) : Type 0 where
  pub text : List ℕ
  pub short : length text ≤ most
  pub utf8 : IsUtf8 text
  pub terminals : Terminals
  pub cut : AreTerminals text terminals
  pub spells : statement store_limits NESTING_LEVELS found terminals []

-- a limit that the text of a call can pass, whatever the store holds
abbrev pub IsLimitOfTexts : LimitName → Type 0
IsLimitOfTexts limit.Statement = Unit {0}
IsLimitOfTexts limit.Nesting = Unit {0}
IsLimitOfTexts limit.Text = Unit {0}
IsLimitOfTexts limit.Items = Unit {0}
IsLimitOfTexts limit.Name = Unit {0}
IsLimitOfTexts _ = ⊥

-- a request that a text or a session's end can give
abbrev pub IsReadable : Request → Type 0
IsReadable (Run found) = IsWritten STATEMENT_BYTES found
IsReadable (Syntax byte) = Unit {0}
IsReadable (Limit passed) = IsLimitOfTexts passed
IsReadable End = Unit {0}

-- what a call asks for whose text has this answer
abbrev pub request_of : Answer → Request
request_of (GivesStatement found) = Run found
request_of (StopsAt byte) = Syntax byte
request_of (PassesLimit name) = Limit name
