use Rattle.std.proofs.Common.{◌≡◌, [], drop, take}
use Rattle.query_model.specs.BoundView.{repeated_after}
use Rattle.bind_scope.specs.After.{after}
use Rattle.bind_select.proofs.view.note_repeated.Given as goal

-- the names from here on are left to be noted
abbrev pub invariant-loop-number : goal.invariant-loop-number
invariant-loop-number l = after l.initial.least (repeated_after [] l.names) ≡ after l.least (repeated_after (take l.number l.names) (drop l.number l.names))
