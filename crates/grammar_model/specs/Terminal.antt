-- Terminal symbols: the tokens of a text, as the rules of the grammar see them.
use Rattle.std.specs.Prelude.{ℕ, Bool, false, List, [], ◌∷◌}
use Rattle.std.specs.Str.{bytes_eq, str_eq_ignore_ascii_case}
use Rattle.sql_lex.specs.declared.token.Token.{Token}
use Rattle.sql_lex.specs.declared.token.TokenKind.{TokenKind}
use Rattle.sql_lex.specs.declared.token.TokenKind.TheVariants.{Keyword, Mark}

-- A token of a text: its kind, its bytes as they stand there, and the place of its first byte. A byte that begins no
-- token, or the quote of a text that isn't closed, counts as a mark without bytes, which no rule takes. Or a slot,
-- which stands in no text: it is what may come in the place of an item above the limit.
pub data Terminal : Type 0 where
  Written : TokenKind → List ℕ → ℕ → Terminal
  Slot : Terminal

abbrev pub Terminals : Type 0
Terminals = List Terminal

-- what the rules see of a token
abbrev pub terminal_of : Token → Terminal
terminal_of token = Written token.kind token.text.now token.start

-- this keyword, in any case
abbrev pub is_word : List ℕ → Terminal → Bool
is_word word (Written Keyword bytes start) = str_eq_ignore_ascii_case bytes word
is_word word _ = false

-- this mark
abbrev pub is_mark : List ℕ → Terminal → Bool
is_mark mark (Written Mark bytes start) = bytes_eq bytes mark
is_mark mark _ = false

-- the byte of a text of that length at which these terminals begin: the first of a token, or the text's length
abbrev pub byte_of : ℕ → Terminals → ℕ
byte_of len [] = len
byte_of len (Written kind bytes start ∷ rest) = start
byte_of len (Slot ∷ rest) = len
