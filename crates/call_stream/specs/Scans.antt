-- How far a stretch is gone over.
use Rattle.std.specs.Prelude.{◌≡◌, ◌≢◌, ◌<◌, ◌≤◌, ◌⊎◌, ◌==◌, if◌then◌else◌, ℕ, ◌+◌, ◌-◌, Bool, true, false, List, [], ◌∷◌, length, drop, slice_range, slice_index, codes, All, Option, None, Some}
use Rattle.std.specs.List.{AllByRecursion, flat_map}
use Rattle.script_model.specs.Piece.{Piece, IsWithoutQuote, starts}
use Rattle.script_model.specs.CallText.{marks_of}
use Rattle.sql_reader.specs.scripts.Fronts.{is_inner, begins_after}
use Rattle.sql_reader.specs.scripts.Stretches.{Spans}
use Rattle.call_stream.specs.Settled.{AreSettled}
use Rattle.call_stream.specs.declared.scan.Place.{Place}
use Rattle.call_stream.specs.declared.scan.Place.TheVariants.{Between, Dash, Line, Quote}
use Rattle.call_stream.specs.declared.scan.Closing.{Closing}
use Rattle.call_stream.specs.declared.scan.Closing.TheVariants as closing
use Rattle.call_stream.specs.declared.scan.Scan.{Scan}

-- two dashes and what follows on their line
pub record IsLine (bytes : List ℕ) : Type 0 where
  pub line : List ℕ
  pub is : bytes ≡ 45 ∷ 45 ∷ line
  pub one_line : All (λ byte. byte ≢ 10) line

-- a quote and what follows up to the next
pub record IsQuote (bytes : List ℕ) : Type 0 where
  pub between : List ℕ
  pub is : bytes ≡ 39 ∷ between
  pub no_quote : IsWithoutQuote between

-- the bytes so far of the piece that is open
abbrev pub IsOpenPiece : Place → List ℕ → Type 0
IsOpenPiece Between bytes = bytes ≡ []
IsOpenPiece Dash bytes = bytes ≡ 45 ∷ []
IsOpenPiece Line bytes = IsLine bytes
IsOpenPiece Quote bytes = IsQuote bytes

-- a byte of ASCII stands there
pub record IsLow (bytes : List ℕ) (at : ℕ) : Type 0 where
  pub within : at < length bytes
  pub low : slice_index bytes at < 128

-- the first byte, or one beside which a byte of ASCII stands: no character goes over this place
abbrev pub IsEdge : List ℕ → ℕ → Type 0
IsEdge bytes at = (at ≡ 0) ⊎ (IsLow bytes at ⊎ ((0 < at) × IsLow bytes (at - 1)))

-- The pieces of a stretch up to the one that is open are settled, and none of them ends it. Their text stands between
-- two places.
pub record IsScanned (bytes : List ℕ) (scan : Scan) : Type 0 where
  pub within : scan.at ≤ length bytes
  pub order : scan.piece ≤ scan.at
  pub pieces : List Piece
  pub inner : AllByRecursion (λ piece. is_inner piece ≡ true) pieces
  pub settled : AreSettled scan.begins pieces bytes (drop scan.piece bytes)
  pub line_is : scan.line ≡ begins_after scan.begins pieces
  pub opens : IsOpenPiece scan.place (slice_range bytes scan.piece scan.at)
  pub spans : Spans 0 scan.start scan.end (flat_map marks_of pieces)
  pub in_order : scan.start ≤ scan.end
  pub before : scan.end ≤ scan.piece
  pub start_edge : scan.start < scan.end → IsEdge bytes scan.start
  pub piece_edge : scan.start ≡ scan.end → IsEdge bytes scan.piece
  pub end_edge : (scan.end ≡ scan.piece) ⊎ IsEdge bytes scan.end

-- what the place that a scan has come to closes
abbrev pub IsMet : List ℕ → Scan → Closing → Type 0
IsMet bytes scan closing.Semicolon = (scan.place ≡ Between) × (scan.at < length bytes) × (slice_index bytes scan.at ≡ 59)
IsMet bytes scan closing.Session =
    (scan.place ≡ Line) × (scan.at < length bytes) × (slice_index bytes scan.at ≡ 10) × (scan.line ≡ true) × (starts (drop scan.piece bytes) (codes "-- session ") ≡ true)

-- a closing is met, or else the scan has come further
abbrev pub IsStep : List ℕ → Scan → Option Closing → Scan → Type 0
IsStep bytes before None after = before.at < after.at
IsStep bytes before (Some found) after = IsMet bytes after found

-- the open piece ends before a byte: it is empty, or it is text
abbrev pub passed : Scan → ℕ → Bool → Scan
passed scan to line = record scan { place = Between; line = line; piece = to; at = to }

abbrev pub held : Scan → ℕ → Scan
held scan to = record scan { place = Between; line = false; piece = to; at = to; start = if scan.start == scan.end then scan.piece else scan.start; end = to }

-- the next byte belongs to the piece at this place
abbrev pub opened : Scan → Place → Scan
opened scan place = record scan { place = place; at = scan.at + 1 }
