-- What stands at the front of an input's bytes: a piece, or some, and how much of them a call's text can hold.
use Rattle.std.specs.Prelude.{◌≡◌, ◌<◌, ◌≤◌, ◌⊎◌, ℕ, ◌-◌, ◌==◌, ◌||◌, Bool, true, false, not, List, [], ◌∷◌, ◌++◌, length, map, take, drop, slice_index, reverse}
use Rattle.std.specs.List.{AllByRecursion, flat_map}
use Rattle.sql_lex.specs.Filler.{EndsLine}
use Rattle.script_model.specs.Piece.{Piece, SessionLine, Semicolon, bytes_of, ends_line, IsPiece, ArePieces}
use Rattle.script_model.specs.CallText.{Mark, mark_of, marks_of}
use Rattle.sql_reader.specs.declared.piece.Front.{Front}
use Rattle.sql_reader.specs.declared.piece.Front.TheVariants as front

-- the piece stands at the front of the bytes, and has that many
pub record AtFront (begins : Bool) (bytes : List ℕ) (piece : Piece) (len : ℕ) : Type 0 where
  pub within : len ≤ length bytes
  pub is : take len bytes ≡ bytes_of piece
  pub fits : IsPiece begins piece (drop len bytes)

abbrev pub AreEmpty : List Mark → Type 0
AreEmpty marks = AllByRecursion (λ mark. mark.empty ≡ true) marks

-- the first byte isn't empty
abbrev pub begins_full : List Mark → Bool
begins_full [] = false
begins_full (mark ∷ marks) = not mark.empty

-- the first byte isn't empty, and neither is the last
pub record IsTight (marks : List Mark) : Type 0 where
  pub first : begins_full marks ≡ true
  pub last : begins_full (reverse marks) ≡ true

-- that many bytes, of which the first and the last aren't empty, and then empty ones
pub record Holds (marks : List Mark) (held : ℕ) : Type 0 where
  pub text : List Mark
  pub back : List Mark
  pub split : marks ≡ text ++ back
  pub tight : IsTight text
  pub back_empty : AreEmpty back
  pub held_is : held ≡ length text

-- a piece that ends no stretch
abbrev pub is_inner : Piece → Bool
is_inner (SessionLine line) = false
is_inner Semicolon = false
is_inner _ = true

-- a byte that stands by itself whatever follows, and ends no line: no quote, no dash, no semicolon and no line feed
abbrev pub is_plain : ℕ → Bool
is_plain byte = not (byte == 39 || byte == 45 || byte == 59 || byte == 10)

-- whether a line begins after pieces
abbrev pub begins_after : Bool → List Piece → Bool
begins_after begins [] = begins
begins_after begins (piece ∷ pieces) = begins_after (ends_line piece) pieces

-- pieces that end no stretch and whose bytes are all empty: a line begins after them where their last byte is a line feed
pub record IsEmptyFront (begins : Bool) (bytes : List ℕ) (len : ℕ) : Type 0 where
  pub some : 0 < len
  pub within : len ≤ length bytes
  pub pieces : List Piece
  pub are : ArePieces begins pieces bytes (drop len bytes)
  pub inner : AllByRecursion (λ piece. is_inner piece ≡ true) pieces
  pub all_empty : AreEmpty (flat_map marks_of pieces)
  pub line : begins_after begins pieces ≡ (slice_index bytes (len - 1) == 10)
  pub first : slice_index bytes 0 < 128
  pub cut : (slice_index bytes (len - 1) < 128) ⊎ EndsLine (drop len bytes)

-- pieces that end no stretch, none of them a comment, and how many of their bytes come up to the last that isn't empty
pub record IsTextFront (begins : Bool) (bytes : List ℕ) (len held : ℕ) : Type 0 where
  pub within : len ≤ length bytes
  pub pieces : List Piece
  pub are : ArePieces begins pieces bytes (drop len bytes)
  pub inner : AllByRecursion (λ piece. is_inner piece ≡ true) pieces
  pub marks_are : flat_map marks_of pieces ≡ map mark_of (take len bytes)
  pub no_line : begins_after begins pieces ≡ false
  pub holds : Holds (map mark_of (take len bytes)) held

-- this stands at the front of the bytes, where `begins` tells whether a line begins there
abbrev pub IsFront : Bool → List ℕ → Front → Type 0
IsFront begins bytes (front.Empty len) = IsEmptyFront begins bytes len
IsFront begins bytes (front.Text len held) = IsTextFront begins bytes len held
IsFront begins bytes front.Semicolon = AtFront begins bytes Semicolon 1
IsFront begins bytes (front.SessionLine len) = (line : List ℕ) × AtFront begins bytes (SessionLine line) len
