-- What the reader finds of a stretch.
use Rattle.std.specs.Prelude.{◌≡◌, ◌<◌, ◌≤◌, ℕ, ◌+◌, ◌==◌, Bool, true, false, List, [], ◌∷◌, ◌++◌, length, drop, slice_range, Some, None, ◌⊎◌}
use Rattle.std.specs.List.{AllByRecursion}
use Rattle.std.specs.Str.{IsCharBoundary}
use Rattle.own_model.specs.declared.limit.TheConstants.{SESSIONS}
use Rattle.script_model.specs.Piece.{Piece, Semicolon, SessionLine, ArePieces}
use Rattle.script_model.specs.Session.{session_of}
use Rattle.script_model.specs.Stretch.{Stretch, Ending, AtSemicolon, AtSession, AtEnd}
use Rattle.script_model.specs.CallText.{Mark, Part, Call, marks_in, call_in, is_closed}
use Rattle.sql_reader.specs.scripts.Fronts.{is_inner, AreEmpty, IsTight}
use Rattle.sql_reader.specs.declared.stretch.Ending.{Ending as Met}
use Rattle.sql_reader.specs.declared.stretch.Ending.TheVariants as met
use Rattle.sql_reader.specs.declared.stretch.Scanned.{Scanned}
use Rattle.sql_reader.specs.declared.stretch.Stretch.{Stretch as Found}

-- a session line that follows `-- session ` with these bytes, at this byte
abbrev pub IsLineMet : List ℕ → ℕ → Met → Type 0
IsLineMet line at (met.Session session) = (session_of line ≡ Some session) × (1 ≤ session) × (session ≤ SESSIONS)
IsLineMet line at (met.BadLine place) = (session_of line ≡ None) × (place ≡ at)
IsLineMet line at met.Semicolon = ⊥
IsLineMet line at met.End = ⊥

-- what the session line of that many bytes at a place means
abbrev pub IsLineEnding : List ℕ → ℕ → ℕ → Met → Type 0
IsLineEnding bytes at len found = IsLineMet (slice_range bytes (at + 11) (at + len)) at found

-- the piece that ends a stretch, unless the input does
abbrev pub ending_pieces : Ending → List Piece
ending_pieces AtSemicolon = Semicolon ∷ []
ending_pieces (AtSession line) = SessionLine line ∷ []
ending_pieces AtEnd = []

-- a stretch that ends at this byte meets this
abbrev pub IsMet : ℕ → Ending → Met → Type 0
IsMet at AtSemicolon found = found ≡ met.Semicolon
IsMet at (AtSession line) found = IsLineMet line at found
IsMet at AtEnd found = found ≡ met.End

-- The stretch that begins at a byte, and with which a line begins only if that is the input's first. After it and what
-- it meets, the byte `next` comes.
pub record IsStretchAt (bytes : List ℕ) (from : ℕ) (stretch : Stretch) (found : Met) (next : ℕ) : Type 0 where
  pub are : ArePieces (from == 0) (stretch.pieces ++ ending_pieces stretch.ending) (drop from bytes) (drop next bytes)
  pub inner : AllByRecursion (λ piece. is_inner piece ≡ true) stretch.pieces
  pub is_met : IsMet (from + length (marks_in stretch)) stretch.ending found
  pub within : next ≤ length bytes
  pub order : from ≤ next
  pub goes_on : (from < next) ⊎ (stretch.ending ≡ AtEnd)
  pub at_end : stretch.ending ≡ AtEnd → next ≡ length bytes
  pub boundary : IsCharBoundary bytes next

-- the marks from the first that isn't empty to the last
pub record SpansText (from start end : ℕ) (marks : List Mark) : Type 0 where
  pub front : List Mark
  pub text : List Mark
  pub back : List Mark
  pub split : marks ≡ front ++ (text ++ back)
  pub front_empty : AreEmpty front
  pub tight : IsTight text
  pub back_empty : AreEmpty back
  pub start_is : start ≡ from + length front
  pub end_is : end ≡ start + length text

-- the text among marks that begin at a byte begins and ends at these bytes
abbrev pub Spans : ℕ → ℕ → ℕ → List Mark → Type 0
Spans from start end marks = ((start ≡ end) × AreEmpty marks) ⊎ SpansText from start end marks

pub record IsScan (bytes : List ℕ) (from : ℕ) (found : Scanned) : Type 0 where
  pub stretch : Stretch
  pub at : IsStretchAt bytes from stretch found.ending found.next
  pub spans : Spans from found.start found.end (marks_in stretch)
  pub in_order : found.start ≤ found.end
  pub start_boundary : IsCharBoundary bytes found.start
  pub end_boundary : IsCharBoundary bytes found.end

-- the call with these bytes, if there are any
abbrev pub call_with : ℕ → ℕ → Bool → List ℕ → List Part
call_with session at closed [] = []
call_with session at closed (byte ∷ bytes) = Call (record { session = session; at = at; bytes = byte ∷ bytes; closed = closed }) ∷ []

pub record IsStretch (bytes : List ℕ) (from : ℕ) (found : Found) : Type 0 where
  pub stretch : Stretch
  pub at : IsStretchAt bytes from stretch found.ending found.next
  pub call : (session : ℕ) → call_in session from stretch ≡ call_with session found.start (is_closed stretch.ending) found.text.now
  pub short : length found.text.now ≤ length bytes
  pub start_within : found.start ≤ length bytes

abbrev pub is_closing : Met → Bool
is_closing met.Semicolon = true
is_closing _ = false

-- the call of what is found, if there is one
abbrev pub call_of_text : ℕ → Found → List Part
call_of_text session found = call_with session found.start (is_closing found.ending) found.text.now
