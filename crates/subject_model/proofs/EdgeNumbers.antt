-- An edge of a schema is told by its number.
use Rattle.std.proofs.Common.{◌≡◌, ℕ, zero, suc, ◌+◌, List, [], ◌∷◌, length, map, inl, inr, ap, subst, arith}
use Rattle.std.specs.Prelude.{Contains, Some, slice_get}
use Rattle.std.specs.List.{range_with_len}
use Rattle.own_model.specs.declared.schema.Edge.{Edge}
use Rattle.own_model.specs.declared.schema.Schema.{Schema}
use Rattle.schema_model.specs.OwnerSchema.{IsOwnerSchema}
use Rattle.subject_model.proofs.Members.{contains_cases, contains_none}

number_at : (first : ℕ) (edges : List Edge) (edge : Edge) (place : ℕ) → map (λ e. e.number.0) edges ≡ range_with_len first (length edges) → slice_get edges place ≡ Some edge
    → edge.number.0 ≡ first + place
number_at first [] edge place numbered at = cc
number_at first (own ∷ edges) edge zero numbered at =
    let same : own ≡ edge = cc in
    let number : own.number.0 ≡ first = cc in
    subst (λ e. e.number.0 ≡ first + 0) same (omega arith)
number_at first (own ∷ edges) edge (suc place) numbered at =
    let rest : map (λ e. e.number.0) edges ≡ range_with_len (first + 1) (length edges) = cc in
    omega (arith, number_at (first + 1) edges edge place rest at)

contains_at : (edges : List Edge) (edge : Edge) → Contains edges edge → (place : ℕ) × (slice_get edges place ≡ Some edge)
contains_at [] edge among = absurd (contains_none edge among)
contains_at (first ∷ edges) edge among =
    elim (contains_cases first edges edge among) [
      | inl here ↦ (0, ap Some here)
      | inr later ↦ let there = contains_at edges edge later in (suc there.0, there.1)
    ]

-- edges of one number are one edge
pub one_edge : (schema : Schema) (one other : Edge) → IsOwnerSchema schema → Contains schema.edges one → Contains schema.edges other → one.number.0 ≡ other.number.0 → one ≡ other
one_edge schema one other owner among among_other same =
    let (place, at) = contains_at schema.edges one among in
    let (place_other, at_other) = contains_at schema.edges other among_other in
    let number = number_at 0 schema.edges one place owner.numbered at in
    let number_other = number_at 0 schema.edges other place_other owner.numbered at_other in
    let here : place ≡ place_other = omega arith in
    cc
