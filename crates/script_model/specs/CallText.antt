-- Where the text of a call begins and ends.
use Rattle.std.specs.Prelude.{ℕ, ◌+◌, Bool, true, false, List, [], ◌∷◌, ◌++◌, length, map, reverse, Option, None, Some, if◌then◌else◌}
use Rattle.std.specs.List.{flat_map}
use Rattle.sql_lex.specs.Bytes.{is_space}
use Rattle.script_model.specs.Piece.{Piece, Comment, SessionLine, Semicolon, bytes_of}
use Rattle.script_model.specs.Session.{session_of}
use Rattle.script_model.specs.Stretch.{Ending, AtSemicolon, AtSession, AtEnd, Stretch}

-- a byte of an input, and whether it is white space or stands in a comment
pub record Mark : Type 0 where
  pub byte : ℕ
  pub empty : Bool

abbrev pub mark_of : ℕ → Mark
mark_of byte = record { byte = byte; empty = is_space byte }

abbrev pub mark_in_comment : ℕ → Mark
mark_in_comment byte = record { byte = byte; empty = true }

-- the bytes of a piece, marked
abbrev pub marks_of : Piece → List Mark
marks_of (Comment line) = map mark_in_comment (bytes_of (Comment line))
marks_of piece = map mark_of (bytes_of piece)

abbrev pub marks_in : Stretch → List Mark
marks_in stretch = flat_map marks_of stretch.pieces

-- without the empty bytes in front
unfoldable pub from_first : List Mark → List Mark
from_first [] = []
from_first (mark ∷ marks) = if mark.empty then from_first marks else mark ∷ marks

-- from the first byte that isn't empty to the last
abbrev pub trimmed : List Mark → List Mark
trimmed marks = reverse (from_first (reverse (from_first marks)))

-- how many empty bytes stand in front
unfoldable pub empty_front : List Mark → ℕ
empty_front [] = 0
empty_front (mark ∷ marks) = if mark.empty then empty_front marks + 1 else 0

-- A call's text: its session, the byte of the input at which it begins, its bytes, and whether a semicolon closes it.
pub record CallText : Type 0 where
  pub session : ℕ
  pub at : ℕ
  pub bytes : List ℕ
  pub closed : Bool

-- what an input has in its order: the texts of calls, and the session lines that name no session, by their first byte
pub data Part : Type 0 where
  Call : CallText → Part
  BadLine : ℕ → Part

abbrev pub is_closed : Ending → Bool
is_closed AtSemicolon = true
is_closed _ = false

-- the call with this text in a stretch that begins at this byte; an empty text is no call
abbrev pub call_of : ℕ → ℕ → Stretch → List Mark → List Part
call_of session at stretch [] = []
call_of session at stretch (mark ∷ marks) = Call (record {
  session = session;
  at = at + empty_front (marks_in stretch);
  bytes = map (λ mark. mark.byte) (mark ∷ marks);
  closed = is_closed stretch.ending;
}) ∷ []

-- the call of a stretch that begins at this byte, if there is one
abbrev pub call_in : ℕ → ℕ → Stretch → List Part
call_in session at stretch = call_of session at stretch (trimmed (marks_in stretch))

-- the byte after a stretch that begins at this one
abbrev pub end_of : ℕ → Stretch → ℕ
end_of at stretch = at + length (marks_in stretch)

-- how many bytes end a stretch
abbrev pub ending_len : Ending → ℕ
ending_len AtSemicolon = length (bytes_of Semicolon)
ending_len (AtSession line) = length (bytes_of (SessionLine line))
ending_len AtEnd = 0

-- the session that calls belong to from here on
abbrev pub or_before : ℕ → Option ℕ → ℕ
or_before before None = before
or_before before (Some session) = session

abbrev pub session_after : ℕ → Ending → ℕ
session_after before (AtSession line) = or_before before (session_of line)
session_after before _ = before

-- a session line at this byte that names no session
abbrev pub bad_unless : ℕ → Option ℕ → List Part
bad_unless at None = BadLine at ∷ []
bad_unless at (Some session) = []

abbrev pub bad_line : ℕ → Ending → List Part
bad_line at (AtSession line) = bad_unless at (session_of line)
bad_line at _ = []

-- the parts of stretches, of which the first begins at this byte and belongs to this session
unfoldable pub parts_from : ℕ → ℕ → List Stretch → List Part
parts_from session at [] = []
parts_from session at (stretch ∷ stretches) =
    call_in session at stretch ++ (bad_line (end_of at stretch) stretch.ending
    ++ parts_from (session_after session stretch.ending) (end_of at stretch + ending_len stretch.ending) stretches)
