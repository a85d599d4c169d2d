-- A text that is cut into tokens, from its front on.
use Rattle.std.specs.Prelude.{◌≡◌, ◌<◌, ◌≤◌, ℕ, List, Option, Some, None, Result, Ok, Err, length, drop, slice_range}
use Rattle.sql_lex.specs.declared.token.SyntaxAt.{SyntaxAt}
use Rattle.sql_lex.specs.declared.token.Token.{Token}
use Rattle.sql_lex.specs.declared.token.TokenKind.{TokenKind}
use Rattle.sql_lex.specs.Filler.{Skips}
use Rattle.sql_lex.specs.Tokens.{Begins}

-- a text, and the byte from which on it isn't cut yet
pub record Lexing : Type 0 where
  pub text : List ℕ
  pub at : ℕ

-- after white space and comments the next token, or the end, stands at this byte
pub record NextStandsAt (lexing : Lexing) (place : ℕ) : Type 0 where
  pub onward : lexing.at ≤ place
  pub within : place ≤ length lexing.text
  pub skips : Skips (drop lexing.at lexing.text) (drop place lexing.text)

-- the token that comes next: the slice of the text from its start to its end
pub record IsNext (lexing : Lexing) (token : Token) : Type 0 where
  pub stands : NextStandsAt lexing token.start
  pub onward : token.start < token.end
  pub within : token.end ≤ length lexing.text
  pub slice : token.text.now ≡ slice_range lexing.text token.start token.end
  pub begins : Begins token.kind (drop token.start lexing.text) token.text.now (drop token.end lexing.text)

-- no token comes any more
abbrev pub IsAtEnd : Lexing → Type 0
IsAtEnd lexing = NextStandsAt lexing (length lexing.text)

-- something stands at this byte, but no token begins there
pub record IsFault (lexing : Lexing) (place : ℕ) : Type 0 where
  pub stands : NextStandsAt lexing place
  pub within : place < length lexing.text
  pub none : (kind : TokenKind) (token after : List ℕ) → Begins kind (drop place lexing.text) token after → ⊥

-- what comes next: the end, a token, or a place at which no token begins
abbrev pub IsNextAnswer : Lexing → Result (Option Token) SyntaxAt → Type 0
IsNextAnswer lexing (Ok None) = IsAtEnd lexing
IsNextAnswer lexing (Ok (Some token)) = IsNext lexing token
IsNextAnswer lexing (Err fault) = IsFault lexing fault.0

-- the same kind at the same place
pub record IsSameToken (one other : Token) : Type 0 where
  pub kind : one.kind ≡ other.kind
  pub start : one.start ≡ other.start
  pub end : one.end ≡ other.end

-- the two answers say the same
abbrev pub SameAnswer : Result (Option Token) SyntaxAt → Result (Option Token) SyntaxAt → Type 0
SameAnswer (Ok None) (Ok None) = Unit {0}
SameAnswer (Ok (Some one)) (Ok (Some other)) = IsSameToken one other
SameAnswer (Err one) (Err other) = one.0 ≡ other.0
SameAnswer _ _ = ⊥
