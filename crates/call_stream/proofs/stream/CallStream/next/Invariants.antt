use Rattle.std.proofs.Common.{◌≤◌, ℕ, List, length}
use Rattle.own_model.specs.declared.script.ScriptCall.{ScriptCall}
use Rattle.script_model.specs.CallText.{CallText}
use Rattle.call_stream.specs.Taken.{HasTaken, IsSound, pending}
use Rattle.call_stream.proofs.stream.CallStream.next.Given as goal

abbrev pub invariant-calls : goal.invariant-calls
invariant-calls l = record {
  sound : IsSound l.self;
  taken : (bytes : List ℕ) (texts : List CallText) (calls : List ScriptCall) → HasTaken l.initial.self bytes texts calls → HasTaken l.self bytes texts calls;
  shorter : length (pending l.self) ≤ length (pending l.initial.self);
}

abbrev pub decreases-calls : goal.decreases-calls
decreases-calls l = length (pending l.self)
