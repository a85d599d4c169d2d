-- What a fault says as a refusal.
use Rattle.own_model.specs.declared.refusal.Refusal.{Refusal}
use Rattle.own_model.specs.declared.refusal.Refusal.TheVariants as refusal
use Rattle.bind_scope.specs.declared.fault.Fault.{Fault}
use Rattle.bind_scope.specs.declared.fault.Fault.TheVariants.{NoTable, NoColumn, WrongKind, Count, NameTaken, BadSchema, KeyWrite, NotSubject, NullValue, Limit}

-- the refusal of the same name
abbrev pub reported : Fault → Refusal
reported (NoTable table) = refusal.NoTable table.now
reported (NoColumn column) = refusal.NoColumn column.now
reported (WrongKind column) = refusal.WrongKind column.now
reported (Count got wanted) = refusal.Count got wanted
reported (NameTaken name) = refusal.NameTaken name.now
reported (BadSchema rule name) = refusal.BadSchema rule name.now
reported (KeyWrite column) = refusal.KeyWrite column.now
reported (NotSubject table) = refusal.NotSubject table.now
reported (NullValue column) = refusal.NullValue column.now
reported (Limit passed) = refusal.Limit passed
