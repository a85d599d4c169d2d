-- Which faults an input may be refused with.
use Rattle.std.specs.Prelude.{ℕ, List, Err}
use Rattle.own_model.specs.declared.script.InputFault.{InputFault}
use Rattle.own_model.specs.declared.script.InputFault.TheVariants.{TooLong, NotText, BadSession, TooManyCalls, Memory}
use Rattle.script_model.specs.Script.{IsText, IsScript}

-- the fault is the input's; out of memory is only an input that isn't too long and is text
abbrev pub IsFaultOf : List ℕ → InputFault → Type 0
IsFaultOf bytes TooLong = IsScript bytes (Err TooLong)
IsFaultOf bytes (NotText byte) = IsScript bytes (Err (NotText byte))
IsFaultOf bytes (BadSession byte) = IsScript bytes (Err (BadSession byte))
IsFaultOf bytes (TooManyCalls byte) = IsScript bytes (Err (TooManyCalls byte))
IsFaultOf bytes Memory = IsText bytes
