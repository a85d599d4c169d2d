-- The terminals of a text.
use Rattle.std.specs.Prelude.{◌≡◌, ℕ, List, [], ◌∷◌, map, ◌⊎◌}
use Rattle.sql_lex.specs.declared.token.Token.{Token}
use Rattle.sql_lex.specs.declared.token.TokenKind.TheVariants.{Mark}
use Rattle.sql_lex.specs.Lexing.{Lexing, IsNext, IsAtEnd, IsFault}
use Rattle.grammar_model.specs.Terminal.{Terminals, terminal_of}

-- what represents a byte that begins no token, or for the quote of a text that isn't closed: a mark without bytes
pub record IsLost (lexing : Lexing) (token : Token) : Type 0 where
  pub fault : IsFault lexing token.start
  pub kind : token.kind ≡ Mark
  pub bytes : token.text.now ≡ []

-- from here on the text is these tokens, up to its end or to the first byte at which none begins
abbrev pub IsCutInto : Lexing → List Token → Type 0
IsCutInto lexing [] = IsAtEnd lexing
IsCutInto lexing (token ∷ tokens) =
    (IsNext lexing token × IsCutInto (record lexing { at = token.end }) tokens) ⊎ (IsLost lexing token × (tokens ≡ []))

-- the terminals of a text
abbrev pub AreTerminals : List ℕ → Terminals → Type 0
AreTerminals text terminals = (tokens : List Token) × IsCutInto (record { text = text; at = 0 }) tokens × (terminals ≡ map terminal_of tokens)
