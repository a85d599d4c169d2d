-- What a check of a CREATE TABLE tells.
use Rattle.std.specs.Prelude.{◌≡◌, ◌≢◌, Option, None, Some, Result, Ok, Err}
use Rattle.own_model.specs.declared.refusal.Refusal.{Refusal}
use Rattle.annot_schema.specs.declared.fault.SchemaFault.{SchemaFault}
use Rattle.annot_schema.specs.declared.fault.SchemaFault.TheVariants.{Memory}
use Rattle.annot_schema.specs.Fault.{refusal_seen}

-- a fault is this cause; out of memory says nothing of it
abbrev pub IsCause : Option Refusal → SchemaFault → Type 0
IsCause cause fault = fault ≢ Memory → cause ≡ Some (refusal_seen fault)

-- there is no cause where the check passes, and else its fault is the cause
abbrev pub Tells : Option Refusal → Result (Unit {0}) SchemaFault → Type 0
Tells cause (Ok _) = cause ≡ None
Tells cause (Err fault) = IsCause cause fault
