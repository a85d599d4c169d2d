-- The order of moves.
use Rattle.std.specs.Ordering.{ordering_then}
use Rattle.std.specs.declared.cmp.Ordering.{Ordering}
use Rattle.subject_model.specs.NameOrder.{name_cmp}
use Rattle.move_model.specs.declared.owner_move.OwnerMove.{OwnerMove}

-- by row, then by subject
abbrev pub move_cmp : OwnerMove → OwnerMove → Ordering
move_cmp one other = ordering_then (name_cmp one.name other.name) (name_cmp one.subject.0 other.subject.0)
