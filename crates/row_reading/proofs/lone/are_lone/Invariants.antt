use Rattle.std.proofs.Common.{◌≡◌, true, take}
use Rattle.std.specs.Prelude.{IfSome}
use Rattle.schema_model.specs.Lone.{are_lone, is_lone}
use Rattle.row_reading.proofs.lone.are_lone.Given as goal

-- the tables so far are lone, and so is the last of them
abbrev pub invariant-loop-change : goal.invariant-loop-change
invariant-loop-change l = (are_lone l.schema (take l.change-index l.changes) ≡ true) × IfSome l.last (λ table. is_lone l.schema table.0 ≡ true)
