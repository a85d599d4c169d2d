use Rattle.std.proofs.Common.{◌≡◌, [], drop, take}
use Rattle.query_model.specs.WriteFaults.{twice}
use Rattle.bind_scope.specs.After.{after}
use Rattle.plan_bind.proofs.column_list.note_twice.Given as goal

-- the names from here on are left to be noted
abbrev pub invariant-loop-number : goal.invariant-loop-number
invariant-loop-number l = after l.initial.least (twice [] l.names) ≡ after l.least (twice (take l.number l.names) (drop l.number l.names))
