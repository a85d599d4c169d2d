-- Tables that are marked as a walk reaches them.
use Rattle.std.specs.Prelude.{◌≡◌, ℕ, ◌+◌, Bool, false, not, ◌&&◌, ◌||◌, ◌==◌, List, length, count_by, slice_index_or}
use Rattle.std.specs.List.{list_any}
use Rattle.own_model.specs.declared.schema.Edge.{Edge}
use Rattle.owner_graph.specs.declared.marks.Marks.{Marks}
use Rattle.owner_graph.specs.TopologicalSort.{is_among}

-- whether the table of this number is marked
abbrev pub is_marked : List Bool → ℕ → Bool
is_marked marked number = slice_index_or marked number false

-- whether one of these edges goes out of it
abbrev pub is_lower : List Edge → ℕ → Bool
is_lower edges number = list_any (λ edge. edge.lower.0 == number) edges

-- Those that were found are marked besides those that were; the new ones are pending too, and each table is as before
-- marked, or pending, or neither, one for one.
pub record MarksMore (found : ℕ → Bool) (old new : Marks) : Type 0 where
  pub marked : (number : ℕ) → is_marked new.marked.items number ≡ (is_marked old.marked.items number || found number)
  pub pending : (number : ℕ) → is_among new.pending.items number ≡ (is_among old.pending.items number || (is_marked new.marked.items number && not (is_marked old.marked.items number)))
  pub as_many : length new.marked.items ≡ length old.marked.items
  pub left : count_by not new.marked.items + length new.pending.items ≡ count_by not old.marked.items + length old.pending.items
