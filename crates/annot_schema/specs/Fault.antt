-- The refusal that a fault of a CREATE TABLE is.
use Rattle.own_model.specs.declared.refusal.Refusal.{Refusal}
use Rattle.own_model.specs.declared.refusal.Refusal.TheVariants as refusal
use Rattle.annot_schema.specs.declared.fault.SchemaFault.{SchemaFault}
use Rattle.annot_schema.specs.declared.fault.SchemaFault.TheVariants.{NameTaken, BadSchema, Cycle, HasRows, Limit, Memory}

abbrev pub refusal_seen : SchemaFault → Refusal
refusal_seen (NameTaken name) = refusal.NameTaken name
refusal_seen (BadSchema rule name) = refusal.BadSchema rule name
refusal_seen (Cycle table through) = refusal.Cycle table through
refusal_seen (HasRows table) = refusal.HasRows table
refusal_seen (Limit name) = refusal.Limit name
refusal_seen Memory = refusal.Memory
