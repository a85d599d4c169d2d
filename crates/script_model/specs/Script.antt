-- The calls of an input, or why it has none.
use Rattle.std.specs.Prelude.{◌≡◌, ◌<◌, ◌≤◌, ℕ, ◌+◌, List, [], ◌∷◌, ◌++◌, length, nat_lt, Option, None, Some, Result, Ok, Err, if◌then◌else◌}
use Rattle.std.specs.Str.Lossy.{utf8_valid_len}
use Rattle.own_model.specs.declared.limit.TheConstants.{INPUT_BYTES, INPUT_CALLS}
use Rattle.own_model.specs.declared.request.Request.{Request}
use Rattle.own_model.specs.declared.script.InputFault.{InputFault}
use Rattle.own_model.specs.declared.script.InputFault.TheVariants.{TooLong, NotText, BadSession, TooManyCalls, Memory}
use Rattle.own_model.specs.declared.script.ScriptCall.{ScriptCall}
use Rattle.script_model.specs.Asked.{AreAskedBy}
use Rattle.script_model.specs.CallText.{CallText, Part, Call, BadLine, parts_from}
use Rattle.script_model.specs.Numbered.{Asking, calls_of}
use Rattle.script_model.specs.Piece.{Piece, AreAllPieces}
use Rattle.script_model.specs.Stretch.{stretches}

-- the parts of an input that is these pieces; its first calls belong to session 1
abbrev pub parts_of : List Piece → List Part
parts_of pieces = parts_from 1 0 (stretches pieces)

-- the texts among parts
abbrev pub texts_in : List Part → List CallText
texts_in [] = []
texts_in (Call text ∷ parts) = text ∷ texts_in parts
texts_in (BadLine at ∷ parts) = texts_in parts

-- a call after that many others is one too many
abbrev pub too_many : ℕ → CallText → List InputFault
too_many count text = if nat_lt count INPUT_CALLS then [] else TooManyCalls text.at ∷ []

-- what is wrong with parts, in the input's order, where that many calls come before them: each session line that names no
-- session, and each call that is one too many
unfoldable pub faults_after : ℕ → List Part → List InputFault
faults_after count [] = []
faults_after count (Call text ∷ parts) = too_many count text ++ faults_after (count + 1) parts
faults_after count (BadLine at ∷ parts) = BadSession at ∷ faults_after count parts

abbrev pub first_of : List InputFault → Option InputFault
first_of [] = None
first_of (fault ∷ faults) = Some fault

-- an input that isn't too long, and is text
pub record IsText (bytes : List ℕ) : Type 0 where
  pub short : length bytes ≤ INPUT_BYTES
  pub valid : utf8_valid_len bytes ≡ length bytes

-- the parts of an input that is text, and the first that is wrong with them
pub record HasParts (bytes : List ℕ) (parts : List Part) (fault : Option InputFault) : Type 0 where
  pub text : IsText bytes
  pub pieces : List Piece
  pub are_pieces : AreAllPieces pieces bytes
  pub parts_are : parts ≡ parts_of pieces
  pub fault_is : fault ≡ first_of (faults_after 0 parts)

-- each text's session, and what it asks for
abbrev pub askings_of : List CallText → List Request → List Asking
askings_of [] requests = []
askings_of (text ∷ texts) [] = []
askings_of (text ∷ texts) (request ∷ requests) = record { session = text.session; request = request } ∷ askings_of texts requests

-- the calls of an input with which nothing is wrong
pub record HasCalls (bytes : List ℕ) (calls : List ScriptCall) : Type 0 where
  pub parts : List Part
  pub lawful : HasParts bytes parts None
  pub requests : List Request
  pub asked : AreAskedBy (texts_in parts) requests
  pub calls_are : calls ≡ calls_of (askings_of (texts_in parts) requests)

-- An input has more than INPUT_BYTES bytes; else bytes that aren't UTF-8, from this one on; else a session line that names
-- no session, or more than INPUT_CALLS calls, whichever comes first; else these calls.
abbrev pub IsScript : List ℕ → Result (List ScriptCall) InputFault → Type 0
IsScript bytes (Ok calls) = HasCalls bytes calls
IsScript bytes (Err TooLong) = INPUT_BYTES < length bytes
IsScript bytes (Err (NotText byte)) = (length bytes ≤ INPUT_BYTES) × (byte < length bytes) × (byte ≡ utf8_valid_len bytes)
IsScript bytes (Err (BadSession byte)) = (parts : List Part) × HasParts bytes parts (Some (BadSession byte))
IsScript bytes (Err (TooManyCalls byte)) = (parts : List Part) × HasParts bytes parts (Some (TooManyCalls byte))
IsScript bytes (Err Memory) = ⊥
