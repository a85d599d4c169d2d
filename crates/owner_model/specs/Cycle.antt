-- Cycles, and which of them is told.
use Rattle.std.specs.Prelude.{◌≡◌, ℕ, ◌≤◌, List, Bool, ◌==◌, ◌&&◌, Option, None, Contains, filter, find, option_map, option_and_then}
use Rattle.std.specs.List.{last_or, list_any, range_with_len}
use Rattle.own_model.specs.declared.schema.Edge.{Edge}
use Rattle.owner_model.specs.Leads.{arrives, leads}
use Rattle.owner_model.specs.Walk.{Arrives, Leads}

-- A cycle, told by two of its tables: the highest table that lies on a cycle of these edges, and the lowest
-- upper table of an edge of it from which it is reached again.
pub record IsCycle (edges : List Edge) (table through : ℕ) : Type 0 where
  -- an edge leads from the one to the other, and a walk leads back
  pub edge : Edge
  pub among : Contains edges edge
  pub lower : edge.lower.0 ≡ table
  pub upper : edge.upper.0 ≡ through
  pub back : Arrives edges through table
  -- no higher table lies on a cycle
  pub highest : (other : ℕ) → Leads edges other other → other ≤ table
  -- and no lower table does for this one
  pub lowest : (other : Edge) → Contains edges other → other.lower.0 ≡ table → Arrives edges other.upper.0 table → through ≤ other.upper.0

-- two tables of a cycle
pub record Cycle : Type 0 where
  pub table : ℕ
  pub through : ℕ

-- the tables that lie on cycles, by number
abbrev pub tables_on_walks : ℕ → List Edge → List ℕ
tables_on_walks tables edges = filter (λ table. leads edges table table) (range_with_len 0 tables)

-- whether an edge leads from one table to another, and a walk leads back
abbrev pub comes_back : List Edge → ℕ → ℕ → Bool
comes_back edges table through = list_any (λ edge. edge.lower.0 == table && edge.upper.0 == through) edges && arrives edges through table

-- the cycle that is reported of these edges over that many tables, where there is one
unfoldable pub cycle_of : ℕ → List Edge → Option Cycle
cycle_of tables edges =
    option_and_then (λ table. option_map (λ through. record { table = table; through = through }) (find (comes_back edges table) (range_with_len 0 tables)))
    (last_or None (tables_on_walks tables edges))
