-- What a reader answers for a text.
use Rattle.std.specs.Prelude.{◌≡◌, ℕ, List, [], length, drop}
use Rattle.own_model.specs.declared.limit.LimitName.{LimitName}
use Rattle.own_model.specs.declared.limit.TheConstants.{NESTING_LEVELS}
use Rattle.own_model.specs.declared.statement.Statement.{Statement}
use Rattle.grammar_model.specs.Continues.{IsSyntaxAt, IsLimitAt}
use Rattle.grammar_model.specs.Grammar.{statement}
use Rattle.grammar_model.specs.Limits.{store_limits}
use Rattle.grammar_model.specs.Terminal.{Terminals, byte_of}
use Rattle.grammar_model.specs.Terminals.{AreTerminals}

-- the statement that the text is, the byte at which no statement continues, or the limit that lets none continue
pub data Answer : Type 0 where
  GivesStatement : Statement → Answer
  StopsAt : ℕ → Answer
  PassesLimit : LimitName → Answer

-- the statement that the terminals are, and no other is one; or the byte of the token at which no statement continues;
-- or the limit that lets none continue
abbrev pub IsAnswerFor : List ℕ → Terminals → Answer → Type 0
IsAnswerFor text terminals (GivesStatement found) =
    statement store_limits NESTING_LEVELS found terminals [] × ((other : Statement) → statement store_limits NESTING_LEVELS other terminals [] → other ≡ found)
IsAnswerFor text terminals (StopsAt byte) = (at : ℕ) × IsSyntaxAt terminals at × (byte ≡ byte_of (length text) (drop at terminals))
IsAnswerFor text terminals (PassesLimit name) = (at : ℕ) × IsLimitAt name terminals at

-- the answer for the text's terminals; the text has no others
pub record IsAnswer (text : List ℕ) (answer : Answer) : Type 0 where
  pub terminals : Terminals
  pub cut : AreTerminals text terminals
  pub only : (other : Terminals) → AreTerminals text other → other ≡ terminals
  pub answers : IsAnswerFor text terminals answer
