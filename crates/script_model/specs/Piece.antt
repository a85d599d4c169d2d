-- What an input is made of: which of its bytes stand in quotes, which in a comment, and which lines are session lines.
use Rattle.std.specs.Prelude.{◌≡◌, ◌≢◌, ℕ, ◌==◌, Bool, true, false, nat_eq, List, [], ◌∷◌, ◌++◌, All, codes}
use Rattle.std.specs.List.{starts_with}
use Rattle.sql_lex.specs.Filler.{EndsLine}

-- A byte by itself; a text in quotes, by what stands between them; a quote that no other follows, and all that stands after
-- it; two dashes and the rest of their line; a line that begins with `-- session `, by the rest of it; a semicolon. Two
-- quotes in a row in a text end one text in quotes and begin another: what they enclose stands in quotes all the same.
pub data Piece : Type 0 where
  Byte : ℕ → Piece
  Quoted : List ℕ → Piece
  Unclosed : List ℕ → Piece
  Comment : List ℕ → Piece
  SessionLine : List ℕ → Piece
  Semicolon : Piece

-- the bytes of a piece
abbrev pub bytes_of : Piece → List ℕ
bytes_of (Byte byte) = byte ∷ []
bytes_of (Quoted between) = 39 ∷ (between ++ 39 ∷ [])
bytes_of (Unclosed after) = 39 ∷ after
bytes_of (Comment line) = 45 ∷ 45 ∷ line
bytes_of (SessionLine line) = codes "-- session " ++ line
bytes_of Semicolon = 59 ∷ []

abbrev pub starts : List ℕ → List ℕ → Bool
starts bytes front = starts_with nat_eq bytes front

-- no quote stands in the bytes
abbrev pub IsWithoutQuote : List ℕ → Type 0
IsWithoutQuote bytes = All (λ byte. byte ≢ 39) bytes

-- the bytes go on up to the end of their line
abbrev pub IsRestOfLine : List ℕ → List ℕ → Type 0
IsRestOfLine line after = All (λ byte. byte ≢ 10) line × EndsLine after

-- a byte that is no quote and no semicolon, and begins no comment
pub record IsAlone (byte : ℕ) (after : List ℕ) : Type 0 where
  pub no_quote : byte ≢ 39
  pub no_semicolon : byte ≢ 59
  pub no_comment : starts (byte ∷ after) (codes "--") ≡ false

-- The piece stands before these bytes, where `begins` tells whether a line begins with it. A line that begins with
-- `-- session ` is a session line and no comment.
abbrev pub IsPiece : Bool → Piece → List ℕ → Type 0
IsPiece begins (Byte byte) after = IsAlone byte after
IsPiece begins (Quoted between) after = IsWithoutQuote between
IsPiece begins (Unclosed bytes) after = IsWithoutQuote bytes × (after ≡ [])
IsPiece begins (Comment line) after = IsRestOfLine line after × (begins ≡ true → starts line (codes " session ") ≡ false)
IsPiece begins (SessionLine line) after = (begins ≡ true) × IsRestOfLine line after
IsPiece begins Semicolon after = Unit {0}

-- a line begins after a line feed that stands by itself, outside quotes
abbrev pub ends_line : Piece → Bool
ends_line (Byte byte) = byte == 10
ends_line _ = false

-- the bytes are these pieces, and what comes after them
abbrev pub ArePieces : Bool → List Piece → List ℕ → List ℕ → Type 0
ArePieces begins [] bytes after = bytes ≡ after
ArePieces begins (piece ∷ pieces) bytes after =
    (middle : List ℕ) × (bytes ≡ bytes_of piece ++ middle) × IsPiece begins piece middle × ArePieces (ends_line piece) pieces middle after

-- the pieces of an input, whose first byte begins a line
abbrev pub AreAllPieces : List Piece → List ℕ → Type 0
AreAllPieces pieces bytes = ArePieces true pieces bytes []
