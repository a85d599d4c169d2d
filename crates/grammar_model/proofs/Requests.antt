-- Which requests the answers for texts give.
use Rattle.std.proofs.Common.{◌≤◌, ℕ, List, length, IsUtf8}
use Rattle.own_model.specs.declared.limit.LimitName.{LimitName}
use Rattle.own_model.specs.declared.limit.LimitName.TheVariants as limit
use Rattle.own_model.specs.declared.limit.TheConstants.{STATEMENT_BYTES}
use Rattle.grammar_model.specs.Answer.{Answer, IsAnswer, GivesStatement, StopsAt, PassesLimit}
use Rattle.grammar_model.specs.Continues.{IsLimitAt}
use Rattle.grammar_model.specs.Readable.{IsReadable, IsLimitOfTexts, request_of}
use Rattle.grammar_model.specs.Terminal.{Terminals}

-- a limit that is no part of the grammar lets no statement stop
limit_readable : (name : LimitName) (terminals : Terminals) (at : ℕ) → IsLimitAt name terminals at → IsLimitOfTexts name
limit_readable limit.Statement terminals at stands = tt
limit_readable limit.Nesting terminals at stands = tt
limit_readable limit.Text terminals at stands = tt
limit_readable limit.Items terminals at stands = tt
limit_readable limit.Name terminals at stands = tt
limit_readable limit.Columns terminals at stands = stands.ends stands.goes_on.0 (λ same. cc) stands.goes_on.1
limit_readable limit.Tables terminals at stands = stands.ends stands.goes_on.0 (λ same. cc) stands.goes_on.1
limit_readable limit.Views terminals at stands = stands.ends stands.goes_on.0 (λ same. cc) stands.goes_on.1
limit_readable limit.Reply terminals at stands = stands.ends stands.goes_on.0 (λ same. cc) stands.goes_on.1
limit_readable limit.Rows terminals at stands = stands.ends stands.goes_on.0 (λ same. cc) stands.goes_on.1
limit_readable limit.Weight terminals at stands = stands.ends stands.goes_on.0 (λ same. cc) stands.goes_on.1
limit_readable limit.Room terminals at stands = stands.ends stands.goes_on.0 (λ same. cc) stands.goes_on.1

-- the answer for a short text in UTF-8 is a request that can be read
pub answer_readable : (text : List ℕ) (answer : Answer) → length text ≤ STATEMENT_BYTES → IsUtf8 text → IsAnswer text answer → IsReadable (request_of answer)
answer_readable text (GivesStatement found) short utf8 is = record { text = text; short = short; utf8 = utf8; terminals = is.terminals; cut = is.cut; spells = is.answers.0 }
answer_readable text (StopsAt byte) short utf8 is = tt
answer_readable text (PassesLimit name) short utf8 is = limit_readable name is.terminals is.answers.0 is.answers.1
