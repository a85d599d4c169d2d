-- Where an input is refused, and why.
use Rattle.std.specs.Prelude.{ℕ, List, ◌++◌, codes}
use Rattle.std.specs.Fmt.{decimal}
use Rattle.own_model.specs.declared.limit.TheConstants.{INPUT_BYTES}
use Rattle.own_model.specs.declared.script.InputFault.{InputFault}
use Rattle.own_model.specs.declared.script.InputFault.TheVariants.{TooLong, NotText, BadSession, TooManyCalls, Memory}

abbrev pub fault_text : InputFault → List ℕ
fault_text TooLong = codes "input refused at byte " ++ decimal INPUT_BYTES ++ codes ": too long"
fault_text (NotText byte) = codes "input refused at byte " ++ decimal byte ++ codes ": not text"
fault_text (BadSession byte) = codes "input refused at byte " ++ decimal byte ++ codes ": bad session line"
fault_text (TooManyCalls byte) = codes "input refused at byte " ++ decimal byte ++ codes ": too many calls"
fault_text Memory = codes "out of memory"
