-- Tables that are placed one behind another, and what the others wait for.
use Rattle.std.specs.Prelude.{◌≡◌, ◌↔◌, ℕ, ◌+◌, ◌<◌, Bool, not, ◌&&◌, ◌==◌, List, ◌++◌, length, count_by, slice_index}
use Rattle.std.specs.List.{list_any}
use Rattle.own_base.specs.declared.number.TableNo.{TableNo}
use Rattle.own_model.specs.declared.schema.Edge.{Edge}
use Rattle.owner_model.specs.Placed.{EachAtOnePlace, IsPlaced, IsUpward}

-- whether a table is among these
abbrev pub is_among : List TableNo → ℕ → Bool
is_among tables number = list_any (λ table. table.0 == number) tables

-- how many edges lead from a table to tables that aren't among these
abbrev pub edges_past : List Edge → List TableNo → ℕ → ℕ
edges_past edges tables number = count_by (λ edge. edge.lower.0 == number && not (is_among tables edge.upper.0)) edges

-- The tables of the order are those that wait for no edge, each at one place; what each of all tables waits for stands by
-- its number.
pub record IsTopologicalSort (order : List TableNo) (waiting : List ℕ) : Type 0 where
  pub within : (table : TableNo) → IsPlaced order table → table.0 < length waiting
  pub placed : (table : TableNo) → table.0 < length waiting → (IsPlaced order table) ↔ (slice_index waiting table.0 ≡ 0)
  pub once : EachAtOnePlace order
  pub others : length order + count_by (λ edges. not (edges == 0)) waiting ≡ length waiting

-- a list goes on from another
pub record GoesOn (old new : List TableNo) : Type 0 where
  pub more : List TableNo
  pub is : new ≡ old ++ more

-- each table waits for as many edges less as there are of it
pub record WaitsForLess (edges : List Edge) (old new : List ℕ) : Type 0 where
  pub fewer : (table : ℕ) → slice_index new table + count_by (λ edge. edge.lower.0 == table) edges ≡ slice_index old table
  pub as_many : length new ≡ length old

-- no more can be placed: each table that isn't waits for its edges to tables that aren't, and the placed ones stand behind
-- those above them
pub record AllPlaced (edges : List Edge) (order : List TableNo) (waiting : List ℕ) : Type 0 where
  pub sorting : IsTopologicalSort order waiting
  pub upward : IsUpward edges order
  pub past : (table : ℕ) → slice_index waiting table ≡ edges_past edges order table
