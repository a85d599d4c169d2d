-- What bytes close, whatever comes after them: texts, the calls that they are, and faults.
use Rattle.std.specs.Prelude.{◌≡◌, ◌<◌, ◌≤◌, ℕ, ◌+◌, true, false, List, [], ◌∷◌, ◌++◌, length}
use Rattle.std.specs.Str.{IsUtf8}
use Rattle.std.specs.Str.Lossy.{utf8_valid_len}
use Rattle.own_model.specs.declared.request.Request.{Request}
use Rattle.own_model.specs.declared.script.ScriptCall.{ScriptCall}
use Rattle.script_model.specs.Asked.{AreAskedBy}
use Rattle.script_model.specs.CallText.{CallText, Part, Call, BadLine}
use Rattle.script_model.specs.Numbered.{calls_of, count_of, numbered_after}
use Rattle.script_model.specs.Piece.{Piece, SessionLine, ArePieces, AreAllPieces}
use Rattle.script_model.specs.Script.{parts_of, texts_in, askings_of}
use Rattle.sql_reader.specs.scripts.Fronts.{is_inner, begins_after}
use Rattle.call_stream.specs.Settled.{AreSettled}
use Rattle.call_stream.specs.declared.fault.StreamFault.{StreamFault}
use Rattle.call_stream.specs.declared.fault.StreamFault.TheVariants as fault

-- the session lines that name no session, by their first byte
abbrev pub bad_lines : List Part → List ℕ
bad_lines [] = []
bad_lines (Call text ∷ parts) = bad_lines parts
bad_lines (BadLine at ∷ parts) = at ∷ bad_lines parts

-- the last of the pieces, if there is one, ends a stretch
abbrev pub AreClosed : List Piece → Type 0
AreClosed [] = Unit {0}
AreClosed (piece ∷ []) = is_inner piece ≡ false
AreClosed (piece ∷ next ∷ pieces) = AreClosed (next ∷ pieces)

-- the pieces of an input's first bytes, up to one that ends a stretch, whatever comes after them
pub record AreFront (bytes front rest : List ℕ) (pieces : List Piece) : Type 0 where
  pub split : bytes ≡ front ++ rest
  pub settled : AreSettled true pieces bytes rest
  pub closed : AreClosed pieces

-- these texts are closed, and nothing is wrong with them
pub record AreTexts (bytes rest : List ℕ) (texts : List CallText) : Type 0 where
  pub front : List ℕ
  pub pieces : List Piece
  pub is_front : AreFront bytes front rest pieces
  pub valid : IsUtf8 front
  pub right : bad_lines (parts_of pieces) ≡ []
  pub texts_are : texts ≡ texts_in (parts_of pieces)

-- the calls of texts, numbered in their sessions
pub record AreCallsOf (texts : List CallText) (calls : List ScriptCall) : Type 0 where
  pub requests : List Request
  pub asked : AreAskedBy texts requests
  pub calls_are : calls ≡ numbered_after [] (askings_of texts requests)

-- the calls are those of the first texts that the bytes close
pub record HasGiven (bytes : List ℕ) (texts : List CallText) (calls : List ScriptCall) : Type 0 where
  pub rest : List ℕ
  pub are_texts : AreTexts bytes rest texts
  pub calls_of_texts : AreCallsOf texts calls

-- none of the pieces ends a stretch, but the last may be a session line, which more bytes may make longer
abbrev pub AreOpen : List Piece → Type 0
AreOpen [] = Unit {0}
AreOpen (SessionLine line ∷ []) = Unit {0}
AreOpen (piece ∷ pieces) = (is_inner piece ≡ true) × AreOpen pieces

-- the texts are all that the bytes close
pub record HasAllClosed (bytes : List ℕ) (texts : List CallText) : Type 0 where
  pub rest : List ℕ
  pub are_texts : AreTexts bytes rest texts
  pub pieces : List Piece
  pub are : ArePieces (begins_after true are_texts.pieces) pieces rest []
  pub are_open : AreOpen pieces

-- A fault of what closes next: its bytes up to there aren't UTF-8 from this one on; or the session line that closes it
-- names no session, and at most one text comes before it besides those given; or the session has no number left for it.
abbrev pub IsFaultMet : List ℕ → List ScriptCall → StreamFault → Type 0
IsFaultMet bytes calls (fault.NotText byte) =
    (front rest : List ℕ) × (pieces : List Piece) × AreFront bytes front rest pieces × (byte < length front) × (byte ≡ utf8_valid_len front)
IsFaultMet bytes calls (fault.BadSession byte) =
    (front rest : List ℕ) × (pieces : List Piece) × AreFront bytes front rest pieces × IsUtf8 front × (bad_lines (parts_of pieces) ≡ byte ∷ []) × (length (texts_in (parts_of pieces)) ≤ length calls + 1)
IsFaultMet bytes calls (fault.TooManyCalls byte) = (session : ℕ) × (count_of session calls ≡ 4294967295)
IsFaultMet bytes calls fault.TooLong = ⊥
IsFaultMet bytes calls fault.Memory = Unit {0}

-- the calls of a whole input with which nothing is wrong, however long it is and however many they are
pub record HasWholeCalls (bytes : List ℕ) (calls : List ScriptCall) : Type 0 where
  pub valid : IsUtf8 bytes
  pub pieces : List Piece
  pub are : AreAllPieces pieces bytes
  pub right : bad_lines (parts_of pieces) ≡ []
  pub requests : List Request
  pub asked : AreAskedBy (texts_in (parts_of pieces)) requests
  pub calls_are : calls ≡ calls_of (askings_of (texts_in (parts_of pieces)) requests)

-- A fault that the end of an input shows: it isn't UTF-8 from this byte on; or its last line is the one session line that
-- names no session; or a session that has had nearly as many calls as 32 bits can count has no number left for one.
abbrev pub IsEndFault : List ℕ → List ScriptCall → StreamFault → Type 0
IsEndFault bytes calls (fault.NotText byte) = (byte < length bytes) × (byte ≡ utf8_valid_len bytes)
IsEndFault bytes calls (fault.BadSession byte) = IsUtf8 bytes × ((pieces : List Piece) × AreAllPieces pieces bytes × (bad_lines (parts_of pieces) ≡ byte ∷ []))
IsEndFault bytes calls (fault.TooManyCalls byte) = (session : ℕ) × (4294967295 ≤ count_of session calls + 1)
IsEndFault bytes calls fault.TooLong = ⊥
IsEndFault bytes calls fault.Memory = Unit {0}
