-- By which table a cycle comes back.
use Rattle.std.specs.Prelude.{◌≡◌, ℕ, ◌≤◌, Bool, false, ◌==◌, ◌&&◌, ◌||◌, List, Option, Contains, MatchOption}
use Rattle.own_base.specs.declared.number.TableNo.{TableNo}
use Rattle.own_model.specs.declared.schema.Edge.{Edge}
use Rattle.owner_model.specs.Leads.{leads}
use Rattle.owner_model.specs.Walk.{Arrives}
use Rattle.owner_graph.specs.Marking.{is_marked}

-- a table is the lowest above another from which a walk leads back to it
pub record IsWayBack (edges : List Edge) (table through : ℕ) : Type 0 where
  -- an edge leads from the one to the other, and a walk leads back
  pub edge : Edge
  pub among : Contains edges edge
  pub lower : edge.lower.0 ≡ table
  pub upper : edge.upper.0 ≡ through
  pub back : Arrives edges through table
  -- and none leads to a lower one from which a walk does
  pub lowest : (other : Edge) → Contains edges other → other.lower.0 ≡ table → Arrives edges other.upper.0 table → through ≤ other.upper.0

-- what is told of a table: that one, or nothing where the table lies on no cycle
abbrev pub TellsWayBack : List Edge → ℕ → Option TableNo → Type 0
TellsWayBack edges table back = MatchOption back (leads edges table table ≡ false) (λ through. IsWayBack edges table through.0)

-- whether an edge goes out of the table, and ends there or at a marked one
abbrev pub leads_back : ℕ → List Bool → Edge → Bool
leads_back table leading edge = edge.lower.0 == table && (edge.upper.0 == table || is_marked leading edge.upper.0)
