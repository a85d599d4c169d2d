-- An owner schema's edges have a graph.
use Rattle.std.proofs.Common.{◌≡◌, ℕ, ◌<◌, true, false, length, sym, ◌∙◌}
use Rattle.own_model.specs.declared.schema.Edge.{Edge}
use Rattle.own_model.specs.declared.schema.Schema.{Schema}
use Rattle.owner_model.specs.AreWithin.{AreWithin}
use Rattle.owner_model.specs.Cycle.{IsCycle}
use Rattle.owner_model.proofs.CycleLemmas.{cycle_leads}
use Rattle.owner_model.proofs.LeadsLemmas.{leads-from_walk}
use Rattle.schema_model.specs.OwnerSchema.{IsOwnerSchema}
use Rattle.schema_model.proofs.EdgeEnds.{ends-old}
use Rattle.schema_model.proofs.Places.{all-from_places}

-- each edge joins two of its tables
pub edges-within : (schema : Schema) → IsOwnerSchema schema → AreWithin (length schema.tables) schema.edges
edges-within schema owner =
    all-from_places (λ (edge : Edge). (edge.lower.0 < length schema.tables) × (edge.upper.0 < length schema.tables)) schema.edges
    (λ place edge is. let ends = ends-old schema place edge owner is in (ends.lower, ends.upper))

-- and no walk over them comes back
pub no_cycle : (schema : Schema) (table through : ℕ) → IsOwnerSchema schema → IsCycle schema.edges table through → ⊥
no_cycle schema table through owner cycle =
    let never : true ≡ false = sym (leads-from_walk schema.edges table table (cycle_leads schema.edges table through cycle)) ∙ owner.acyclic table in cc
