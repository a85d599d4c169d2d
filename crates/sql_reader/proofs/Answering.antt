-- The answer for a text, of what the reading rules give for its tokens.
use Rattle.std.proofs.Common.{◌≡◌, ℕ, List, [], ◌∷◌, length, map, Ok, Err, IfSome, refl, sym, ap, ◌∙◌, subst}
use Rattle.own_model.specs.declared.limit.LimitName.{LimitName}
use Rattle.own_model.specs.declared.limit.TheConstants.{NESTING_LEVELS}
use Rattle.own_model.specs.declared.statement.Statement.{Statement}
use Rattle.sql_lex.specs.declared.token.Token as lexed
use Rattle.sql_reader.specs.declared.fault.RuleFault.TheVariants as fault
use Rattle.grammar_model.specs.Answer.{Answer, GivesStatement, StopsAt, PassesLimit, IsAnswerFor, IsAnswer}
use Rattle.grammar_model.specs.Terminals.{IsCutInto, AreTerminals}
use Rattle.grammar_model.specs.Limits.{store_limits}
use Rattle.sql_reader.specs.AnswerOf.{answer_of, read_fault}
use Rattle.sql_reader.specs.declared.fault.RuleFault.{RuleFault}
use Rattle.sql_reader.specs.reading.Reader.{Does}
use Rattle.sql_reader.specs.reading.Whole.{whole}
use Rattle.grammar_model.specs.Terminal.{Terminals}
use Rattle.grammar_model.specs.Terminal.{terminal_of, byte_of}
use Rattle.sql_reader.proofs.OneAnswer.{answers_same}
use Rattle.sql_reader.proofs.ReaderRight.{NoSlot}
use Rattle.sql_reader.proofs.FaultPlaces.{store_fair, syntax_at, limit_at}
use Rattle.sql_reader.proofs.WholeEnds.{whole-ends}
use Rattle.sql_reader.proofs.WholeTexts.{means_whole, reads_whole, read_of}

-- no token of a text is a slot
pub no_slots : (tokens : List lexed.Token) → NoSlot (map terminal_of tokens)
no_slots [] = tt
no_slots (token ∷ tokens) = (refl, no_slots tokens)

-- the answer for terminals of the text, which has no others
pub answer : (text : List ℕ) (tokens : List lexed.Token) (answer : Answer) → IsCutInto (record { text = text; at = 0 }) tokens → ((other : Terminals) → AreTerminals text other → other ≡ map terminal_of tokens) → IsAnswerFor text (map terminal_of tokens) answer → IsAnswer text answer
answer text tokens found cut only answers = record { terminals = map terminal_of tokens; cut = (tokens, cut, refl); only = only; answers = answers }

-- what is read is the statement of the terminals
pub answers_ok : (text : List ℕ) (terminals : Terminals) (found : Statement) (rest : Terminals) → whole terminals ≡ Ok (found, rest) → IsAnswerFor text terminals (GivesStatement found)
unfolding whole
answers_ok text terminals found rest is =
    let read = is ∙ ap (λ l. Ok (found, l)) (whole-ends terminals found rest is) in
    (means_whole store_limits store_fair NESTING_LEVELS found terminals read, λ other text. ap (λ o. read_of o found) (sym (reads_whole store_limits store_fair NESTING_LEVELS other terminals text) ∙ read))

-- a fault of syntax stands where no statement continues
pub answers_syntax : (text : List ℕ) (tokens : List lexed.Token) (rest : Terminals) (byte : ℕ) → whole (map terminal_of tokens) ≡ Err (fault.Syntax, rest) → byte ≡ byte_of (length text) rest → IsAnswerFor text (map terminal_of tokens) (StopsAt byte)
unfolding whole
answers_syntax text tokens rest byte is place =
    let stands = syntax_at (map terminal_of tokens) (no_slots tokens) rest is in
    (stands.0, stands.1, place ∙ ap (byte_of (length text)) (sym stands.2))

-- a limit is reported where it lets no statement continue
pub answers_limit : (text : List ℕ) (tokens : List lexed.Token) (rest : Terminals) (name : LimitName) → whole (map terminal_of tokens) ≡ Err (fault.Limit name, rest) → IsAnswerFor text (map terminal_of tokens) (PassesLimit name)
unfolding whole
answers_limit text tokens rest name is = limit_at (map terminal_of tokens) (no_slots tokens) name rest is

-- a fault of the rules is the answer for the text, unless it is for want of memory
pub answers_fault : (text : List ℕ) (tokens : List lexed.Token) (terminals rest : Terminals) (why : RuleFault) (byte : ℕ) → IsCutInto (record { text = text; at = 0 }) tokens
    → ((other : Terminals) → AreTerminals text other → other ≡ map terminal_of tokens) → terminals ≡ map terminal_of tokens → Does whole terminals (Err why) rest → byte ≡ byte_of (length text) rest
    → IfSome (answer_of (Err (read_fault why byte))) (λ answer. IsAnswer text answer)
answers_fault text tokens terminals rest fault.Memory byte cut only same does place = tt
answers_fault text tokens terminals rest (fault.Limit name) byte cut only same does place = answer text tokens (PassesLimit name) cut only (answers_limit text tokens rest name (ap whole (sym same) ∙ does))
answers_fault text tokens terminals rest fault.Syntax byte cut only same does place = answer text tokens (StopsAt byte) cut only (answers_syntax text tokens rest byte (ap whole (sym same) ∙ does) place)

-- a text has one answer
pub one_answer : (text : List ℕ) (one other : Answer) → IsAnswer text one → IsAnswer text other → one ≡ other
one_answer text one other first second =
    answers_same text first.terminals (subst NoSlot (sym first.cut.2) (no_slots first.cut.0)) one other first.answers (subst (λ l. IsAnswerFor text l other) (first.only second.terminals second.cut) second.answers)
