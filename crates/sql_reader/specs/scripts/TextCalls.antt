-- What the reader takes of a text.
use Rattle.std.specs.Prelude.{◌≡◌, ◌≤◌, ℕ, List, [], ◌++◌, length, map, filter, nat_lt, Some}
use Rattle.own_model.specs.declared.limit.TheConstants.{INPUT_CALLS}
use Rattle.own_model.specs.declared.request.Request.{Request}
use Rattle.own_model.specs.declared.request.Request.TheVariants.{End}
use Rattle.own_model.specs.declared.script.InputFault.{InputFault}
use Rattle.own_model.specs.declared.script.InputFault.TheVariants.{TooLong, NotText, BadSession, TooManyCalls, Memory}
use Rattle.own_model.specs.declared.script.ScriptCall.{ScriptCall}
use Rattle.script_model.specs.Asked.{AreAskedBy}
use Rattle.script_model.specs.CallText.{Part}
use Rattle.script_model.specs.Numbered.{Asking, count_of, numbered_after}
use Rattle.script_model.specs.Piece.{Piece, AreAllPieces}
use Rattle.script_model.specs.Script.{parts_of, texts_in, faults_after, first_of, askings_of}
use Rattle.script_model.specs.Session.{sessions}
use Rattle.sql_reader.specs.scripts.Counts.{asking}

-- After these calls, nothing is wrong with the parts, and their calls are added.
pub record Takes (before : List ScriptCall) (parts : List Part) (after : List ScriptCall) : Type 0 where
  pub requests : List Request
  pub asked : AreAskedBy (texts_in parts) requests
  pub right : faults_after (length before) parts ≡ []
  pub added : after ≡ before ++ numbered_after before (askings_of (texts_in parts) requests)

-- the fault is the first that is wrong with parts before which that many calls come, or memory was refused
abbrev pub IsFaultIn : ℕ → List Part → InputFault → Type 0
IsFaultIn count parts TooLong = ⊥
IsFaultIn count parts (NotText byte) = ⊥
IsFaultIn count parts (BadSession byte) = first_of (faults_after count parts) ≡ Some (BadSession byte)
IsFaultIn count parts (TooManyCalls byte) = first_of (faults_after count parts) ≡ Some (TooManyCalls byte)
IsFaultIn count parts Memory = Unit {0}

-- what is taken of a text, part by part: few items, which are those of the text's parts
pub record TakesText {X : Type 0} (Taken : List X → List Part → List X → Type 0) (bytes : List ℕ) (items : List X) : Type 0 where
  pub pieces : List Piece
  pub are : AreAllPieces pieces bytes
  pub takes : Taken [] (parts_of pieces) items
  pub few : length items ≤ INPUT_CALLS

-- the calls of a text, without the Ends
abbrev pub HasTextCalls : List ℕ → List ScriptCall → Type 0
HasTextCalls bytes calls = TakesText Takes bytes calls

-- why a text has no calls
pub record IsTextFault (bytes : List ℕ) (fault : InputFault) : Type 0 where
  pub pieces : List Piece
  pub are : AreAllPieces pieces bytes
  pub is : IsFaultIn 0 (parts_of pieces) fault

-- an End for each session that has a call
abbrev pub ends_after : List ScriptCall → List Asking
ends_after calls = map (λ session. asking session End) (filter (λ session. nat_lt 0 (count_of session calls)) sessions)
