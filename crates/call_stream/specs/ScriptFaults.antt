-- What a fault of a stream says of the script of the whole input.
use Rattle.std.specs.Prelude.{◌≤◌, List, [], ◌∷◌, ℕ, length, Err}
use Rattle.std.specs.Str.{IsUtf8}
use Rattle.own_model.specs.declared.limit.TheConstants.{INPUT_BYTES, INPUT_CALLS}
use Rattle.own_model.specs.declared.script.InputFault.TheVariants.{TooLong, NotText, BadSession}
use Rattle.script_model.specs.CallText.{CallText, Part, Call, BadLine}
use Rattle.script_model.specs.Piece.{Piece, AreAllPieces}
use Rattle.script_model.specs.Script.{IsScript, parts_of}
use Rattle.call_stream.specs.declared.fault.StreamFault.{StreamFault}
use Rattle.call_stream.specs.declared.fault.StreamFault.TheVariants as fault

-- the texts before the first session line that names no session
abbrev pub before_bad : List Part → List CallText
before_bad [] = []
before_bad (Call text ∷ parts) = text ∷ before_bad parts
before_bad (BadLine at ∷ parts) = []

-- no more calls than an input may have come before that line
abbrev pub AreFewBefore : List ℕ → Type 0
AreFewBefore bytes = (pieces : List Piece) → AreAllPieces pieces bytes → length (before_bad (parts_of pieces)) ≤ INPUT_CALLS

-- The script of an input in which a stream has a fault: the same fault, where the input isn't too long; a session line
-- counts only in an input that is text, and where not too many calls come before it. An input with more calls of a session
-- than 32 bits can count is too long. Memory that was refused says nothing of the input.
abbrev pub IsScriptFault : List ℕ → StreamFault → Type 0
IsScriptFault bytes (fault.NotText byte) = length bytes ≤ INPUT_BYTES → IsScript bytes (Err (NotText byte))
IsScriptFault bytes (fault.BadSession byte) = length bytes ≤ INPUT_BYTES → IsUtf8 bytes → AreFewBefore bytes → IsScript bytes (Err (BadSession byte))
IsScriptFault bytes (fault.TooManyCalls byte) = IsScript bytes (Err TooLong)
IsScriptFault bytes fault.TooLong = ⊥
IsScriptFault bytes fault.Memory = Unit {0}
