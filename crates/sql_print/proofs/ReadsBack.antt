-- The canonical text of a statement reads back as that statement.
use Rattle.std.proofs.Common.{◌≡◌, ℕ, List, [], ◌∷◌, inl, inr, refl, sym, ap, ◌∙◌, subst, Ok}
use Rattle.std.specs.Prelude.{map, None, Some}
use Rattle.own_model.specs.declared.limit.TheConstants.{NESTING_LEVELS}
use Rattle.own_model.specs.declared.statement.Statement.{Statement}
use Rattle.sql_lex.specs.declared.token.Token.{Token}
use Rattle.sql_lex.specs.declared.token.TokenKind.{TokenKind}
use Rattle.sql_lex.specs.declared.token.TokenKind.TheVariants.{Name, Keyword, Number, Quoted, Mark}
use Rattle.sql_lex.specs.Lexing.{Lexing}
use Rattle.sql_lex.specs.Tokens.{IsSpelled}
use Rattle.sql_lex.proofs.Once.{NextAnswer-once}
use Rattle.grammar_model.specs.Answer.{Answer, GivesStatement, IsAnswer}
use Rattle.grammar_model.specs.Grammar as grammar
use Rattle.grammar_model.specs.Limits.{store_limits}
use Rattle.grammar_model.specs.Readable.{IsWritten}
use Rattle.grammar_model.specs.Terminal.{Terminals, terminal_of, Written}
use Rattle.grammar_model.specs.Terminals.{IsCutInto, IsLost, AreTerminals}
use Rattle.text_model.specs.Canonical.{canonical, statement_words}
use Rattle.text_model.specs.Words.{spaced}
use Rattle.sql_reader.proofs.Answering.{one_answer}
use Rattle.sql_reader.proofs.CutTexts.{Chain, Chain-end, IsTheAnswer, AreTerminals-end}
use Rattle.sql_reader.proofs.FaultPlaces.{store_fair}
use Rattle.sql_reader.proofs.WholeTexts.{reads_whole, read_of}
use Rattle.sql_print.proofs.Spelling.{AreSound, IsSound, Writes, word_of}
use Rattle.sql_print.proofs.CutWords.{Steps, cut-words}
use Rattle.sql_print.proofs.WrittenStatements.{statement}

-- a token of a text is sound
token-sound : (kind : TokenKind) (bytes : List ℕ) (start : ℕ) → IsSpelled kind bytes → IsSound (Written kind bytes start)
token-sound Name bytes start spelled = spelled.1
token-sound Keyword bytes start spelled = tt
token-sound Number bytes start spelled = tt
token-sound Quoted bytes start spelled = tt
token-sound Mark bytes start spelled = tt

-- what represents a byte that begins no token is sound
lost-sound : (lexing : Lexing) (token : Token) → IsLost lexing token → IsSound (terminal_of token)
lost-sound lexing token lost = subst (λ kind. IsSound (Written kind token.text.now token.start)) (sym lost.kind) tt

-- the terminals of a text are sound
tokens-sound : (lexing : Lexing) (tokens : List Token) → IsCutInto lexing tokens → AreSound (map terminal_of tokens)
tokens-sound lexing [] cut = tt
tokens-sound lexing (token ∷ tokens) (inl (next, cut)) = (token-sound token.kind token.text.now token.start next.begins.spelled, tokens-sound (record lexing { at = token.end }) tokens cut)
tokens-sound lexing (token ∷ tokens) (inr (lost, none)) = (lost-sound lexing token lost, subst (λ l. AreSound (map terminal_of l)) (sym none) tt)

-- so they are where nothing is said of the tokens
terminals-sound : (text : List ℕ) (terminals : Terminals) → AreTerminals text terminals → AreSound terminals
terminals-sound text terminals (tokens, cut, same) = subst AreSound (sym same) (tokens-sound (record { text = text; at = 0 }) tokens cut)

-- where these tokens come and then the end, nothing else does
Chain-steps : (lexing : Lexing) (tokens : List Token) → Steps lexing tokens → (to : Lexing) × Chain lexing tokens to × IsTheAnswer to (Ok None)
Chain-steps lexing [] ends = (lexing, refl, record { right = ends; only = λ other right. NextAnswer-once lexing (Ok None) other ends right })
Chain-steps lexing (token ∷ tokens) (next, steps) =
    let chain = Chain-steps (record lexing { at = token.end }) tokens steps in
    (chain.0, (record { right = next; only = λ other right. NextAnswer-once lexing (Ok (Some token)) other next right }, chain.1), chain.2)

-- a statement that terminals are is the only one
one_statement : (terminals : Terminals) (found other : Statement) → grammar.statement store_limits NESTING_LEVELS found terminals [] → grammar.statement store_limits NESTING_LEVELS other terminals [] → other ≡ found
one_statement terminals found other text same =
    ap (λ outcome. read_of outcome found) (sym (reads_whole store_limits store_fair NESTING_LEVELS other terminals same) ∙ reads_whole store_limits store_fair NESTING_LEVELS found terminals text)

-- what these words spell, with one space between, is answered by the statement
answer-of : (text : List ℕ) (found : Statement) (writes : Writes (statement_words found) (grammar.statement store_limits NESTING_LEVELS found)) → text ≡ spaced (map word_of writes.pieces) → IsAnswer text (GivesStatement found)
answer-of text found writes same =
    let cut = cut-words writes.pieces writes.are in
    let chain = Chain-steps (record { text = spaced (map word_of writes.pieces); at = 0 }) cut.tokens cut.steps in
    let holds = writes.holds (map terminal_of cut.tokens) [] cut.spells in
    subst (λ l. IsAnswer l (GivesStatement found)) (sym same)
    (record {
      terminals = map terminal_of cut.tokens;
      cut = (cut.tokens, Chain-end (record { text = spaced (map word_of writes.pieces); at = 0 }) cut.tokens chain.0 chain.1 chain.2.right, refl);
      only = AreTerminals-end (spaced (map word_of writes.pieces)) cut.tokens chain.0 chain.1 chain.2;
      answers = (holds, λ other text. one_statement (map terminal_of cut.tokens) found other holds text);
    })

-- the canonical text of a statement reads back as it
pub reads_back : (most : ℕ) (found : Statement) → IsWritten most found → IsAnswer (canonical found) (GivesStatement found)
unfolding canonical
reads_back most found is =
    let writes = (statement store_limits NESTING_LEVELS).writes found is.terminals [] (terminals-sound is.text is.terminals is.cut) is.spells in
    answer-of (spaced (statement_words found)) found writes (ap spaced writes.same)

-- the statement of an answer
abbrev given : Statement → Answer → Statement
given other (GivesStatement found) = found
given other _ = other

-- statements with one canonical text are one
pub one_of_text : (most : ℕ) (one other : Statement) → IsWritten most one → IsWritten most other → canonical one ≡ canonical other → one ≡ other
one_of_text most one other first second same =
    ap (given one)
    (one_answer (canonical one) (GivesStatement one) (GivesStatement other) (reads_back most one first)
    (subst (λ l. IsAnswer l (GivesStatement other)) (sym same) (reads_back most other second)))
