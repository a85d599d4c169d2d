-- The rows that change, and those whose subjects move.
use Rattle.std.specs.Prelude.{◌↔◌, List, Contains, map}
use Rattle.std.specs.List.Sorted.{IsStrictlySortedBy}
use Rattle.own_base.specs.declared.change.Change.{Change}
use Rattle.own_base.specs.declared.row_name.RowName.{RowName}
use Rattle.subject_model.specs.NameOrder.{name_cmp}
use Rattle.move_model.specs.declared.owner_move.OwnerMove.{OwnerMove}

-- the names of changes
abbrev pub changed_names : List Change → List RowName
changed_names changes = map (λ change. change.name) changes

-- and of moves
abbrev pub moved_names : List OwnerMove → List RowName
moved_names moves = map (λ move. move.name) moves

-- The same names, rising, each once.
pub record AreTidied (given names : List RowName) : Type 0 where
  pub rising : IsStrictlySortedBy name_cmp names
  pub same : (name : RowName) → Contains names name ↔ Contains given name
