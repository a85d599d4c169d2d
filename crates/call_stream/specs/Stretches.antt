-- What a stretch holds that is gone over.
use Rattle.std.specs.Prelude.{◌≡◌, ◌<◌, ◌≤◌, ℕ, ◌+◌, Bool, true, false, List, [], ◌++◌, length, take, drop, slice_range, count_by, nat_lt, ◌==◌, ◌&&◌, ◌||◌, not, if◌then◌else◌, codes, Option, None, Some}
use Rattle.std.specs.List.{AllByRecursion}
use Rattle.std.specs.Str.{IsUtf8, IsCharBoundary, IsValidUpTo}
use Rattle.own_model.specs.declared.limit.TheConstants.{SESSIONS, STATEMENT_BYTES}
use Rattle.own_model.specs.declared.request.Request.{Request}
use Rattle.script_model.specs.Asked.{IsAskedWhere}
use Rattle.script_model.specs.CallText.{marks_in}
use Rattle.script_model.specs.Piece.{ArePieces, starts}
use Rattle.script_model.specs.Session.{session_of}
use Rattle.script_model.specs.Stretch.{Stretch, Ending, AtSemicolon, AtSession, AtEnd}
use Rattle.sql_reader.specs.scripts.Fronts.{is_inner}
use Rattle.sql_reader.specs.scripts.Stretches.{Spans, ending_pieces}
use Rattle.call_stream.specs.Settled.{AreSettled}
use Rattle.call_stream.specs.declared.call.StreamCall.{StreamCall}
use Rattle.call_stream.specs.declared.fault.StreamFault.{StreamFault}
use Rattle.call_stream.specs.declared.fault.StreamFault.TheVariants as fault
use Rattle.call_stream.specs.declared.scan.Closing.{Closing}
use Rattle.call_stream.specs.declared.scan.Closing.TheVariants as closing
use Rattle.call_stream.specs.declared.scan.Place.{Place}
use Rattle.call_stream.specs.declared.scan.Place.TheVariants.{Dash, Line, Quote}
use Rattle.call_stream.specs.declared.scan.Scan.{Scan}
use Rattle.call_stream.specs.declared.stretch.Read.{Read}

abbrev pub feeds : List ℕ → ℕ
feeds bytes = count_by (λ byte. byte == 10) bytes

-- the byte after what closes a text
abbrev pub next_of : Scan → Closing → ℕ
next_of scan closing.Semicolon = scan.at + 1
next_of scan closing.Session = scan.at

-- what follows `-- session ` on the line that is open
abbrev pub line_of : List ℕ → Scan → List ℕ
line_of bytes scan = slice_range bytes (scan.piece + 11) scan.at

abbrev pub is_line : Place → Bool
is_line Line = true
is_line _ = false

abbrev pub IsEndingOf : List ℕ → Scan → Closing → Ending → Type 0
IsEndingOf bytes scan closing.Semicolon ending = ending ≡ AtSemicolon
IsEndingOf bytes scan closing.Session ending = ending ≡ AtSession (line_of bytes scan)

-- The stretch that is gone over meets what closes it, and its text stands between the places of the scan.
pub record IsClosed (bytes : List ℕ) (scan : Scan) (found : Closing) : Type 0 where
  pub stretch : Stretch
  pub settled : AreSettled scan.begins (stretch.pieces ++ ending_pieces stretch.ending) bytes (drop (next_of scan found) bytes)
  pub inner : AllByRecursion (λ piece. is_inner piece ≡ true) stretch.pieces
  pub place : scan.piece ≡ length (marks_in stretch)
  pub spans : Spans 0 scan.start scan.end (marks_in stretch)
  pub ends : IsEndingOf bytes scan found stretch.ending
  pub some : 0 < next_of scan found
  pub within : next_of scan found ≤ length bytes

-- The stretch that the end of the input leaves: its text stands between the places of the last scan, and a session line
-- ends it or the input does.
pub record IsLast (bytes : List ℕ) (scan last : Scan) (session : Bool) : Type 0 where
  pub stretch : Stretch
  pub are : ArePieces scan.begins (stretch.pieces ++ ending_pieces stretch.ending) bytes []
  pub inner : AllByRecursion (λ piece. is_inner piece ≡ true) stretch.pieces
  pub ends : stretch.ending ≡ (if session then AtSession (line_of bytes scan) else AtEnd)
  pub spans : Spans 0 last.start last.end (marks_in stretch)
  pub in_order : last.start ≤ last.end
  pub within : last.end ≤ length bytes
  pub start_boundary : IsUtf8 bytes → IsCharBoundary bytes last.start
  pub end_boundary : IsUtf8 bytes → IsCharBoundary bytes last.end

-- a byte of a text has come that is neither white space nor in a comment: one that is settled, or a dash or a quote
abbrev pub begins_text : Place → Bool
begins_text Dash = true
begins_text Quote = true
begins_text _ = false

abbrev pub has_begun : Scan → Bool
has_begun scan = not (scan.start == scan.end) || begins_text scan.place

-- a session line is open
abbrev pub session_open : List ℕ → Scan → Bool
session_open bytes scan = is_line scan.place && (scan.line && starts (drop scan.piece bytes) (codes "-- session "))

abbrev pub closes : Closing → Bool
closes closing.Semicolon = true
closes closing.Session = false

-- the call of the text from one place to another: its session has had that many calls, and that many lines end before
pub record IsCallOf (text : List ℕ) (line session count : ℕ) (closed : Bool) (call : StreamCall) : Type 0 where
  pub request : Request
  pub asked : IsAskedWhere closed (nat_lt STATEMENT_BYTES (length text)) text request
  pub call_is : call.call ≡ record { session = record { 0 = session }; call = count + 1; request = request }
  pub text_is : call.text ≡ text
  pub line_is : call.line ≡ line

-- the call of a stretch, if it has one
abbrev pub IsCallIn : List ℕ → ℕ → ℕ → ℕ → ℕ → ℕ → Bool → Option StreamCall → Type 0
IsCallIn bytes start end lines session count closed None = start ≡ end
IsCallIn bytes start end lines session count closed (Some call) =
    (start < end) × (count < 4294967295) × IsCallOf (slice_range bytes start end) (lines + feeds (take start bytes) + 1) session count closed call

-- the session that calls belong to after this
abbrev pub IsSessionAfter : List ℕ → Scan → ℕ → Closing → ℕ → Type 0
IsSessionAfter bytes scan before closing.Semicolon session = session ≡ before
IsSessionAfter bytes scan before closing.Session session = session_of (line_of bytes scan) ≡ Some session

-- what is read of a stretch that is closed
pub record IsRead (bytes : List ℕ) (scan : Scan) (lines session count : ℕ) (found : Closing) (read : Read) : Type 0 where
  pub next_is : read.next ≡ next_of scan found
  pub valid : IsUtf8 (take read.next bytes)
  pub session_is : IsSessionAfter bytes scan session found read.session
  pub some : 1 ≤ read.session
  pub within : read.session ≤ SESSIONS
  pub call_is : IsCallIn (take read.next bytes) scan.start scan.end lines session count (closes found) read.call

-- why a stretch that is closed isn't read, where that many bytes come before it
abbrev pub IsReadFault : List ℕ → Scan → ℕ → ℕ → Closing → StreamFault → Type 0
IsReadFault bytes scan before count found (fault.NotText byte) =
    (valid : ℕ) × IsValidUpTo (take (next_of scan found) bytes) valid × (byte ≡ before + valid)
IsReadFault bytes scan before count found (fault.BadSession byte) =
    (found ≡ closing.Session) × IsUtf8 (take (next_of scan found) bytes) × (session_of (line_of bytes scan) ≡ None) × (byte ≡ before + scan.piece)
IsReadFault bytes scan before count found (fault.TooManyCalls byte) = (count ≡ 4294967295) × (scan.start < scan.end) × (byte ≡ before + scan.start)
IsReadFault bytes scan before count found fault.TooLong = ⊥
IsReadFault bytes scan before count found fault.Memory = Unit {0}

-- why a call has none
abbrev pub IsCallFault : ℕ → ℕ → ℕ → ℕ → StreamFault → Type 0
IsCallFault start end before count (fault.TooManyCalls byte) = (count ≡ 4294967295) × (start < end) × (byte ≡ before + start)
IsCallFault start end before count fault.Memory = Unit {0}
IsCallFault start end before count _ = ⊥
