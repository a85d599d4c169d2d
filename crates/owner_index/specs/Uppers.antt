-- The rows to which edges lead up from a row.
use Rattle.std.specs.Prelude.{◌≡◌, ◌⊎◌, ◌↔◌, Bool, List, Contains}
use Rattle.own_base.specs.declared.row_name.RowName.{RowName}
use Rattle.own_model.specs.declared.schema.Edge.{Edge}
use Rattle.own_model.specs.Db.{Db}
use Rattle.owner_model.specs.Joins.{Joins}
use Rattle.owner_index.specs.declared.upper.Upper.{Upper}

-- a row as an upper row
abbrev pub as_upper : Bool → RowName → Upper
as_upper owner name = record { owner = owner; name = name }

-- an edge leads from a row up to this one, and gives ownership where that is said
abbrev pub IsUpperBy : Db → RowName → Edge → Upper → Type 0
IsUpperBy db name edge upper = (upper.owner ≡ edge.owner) × Joins db name edge upper.name

-- those of one edge are added
pub record AddsUppers (db : Db) (name : RowName) (edge : Edge) (old new : List Upper) : Type 0 where
  pub has : (upper : Upper) → Contains new upper ↔ (Contains old upper ⊎ IsUpperBy db name edge upper)

-- those of some edges
pub record AreUppersBy (db : Db) (name : RowName) (edges : List Edge) (uppers : List Upper) : Type 0 where
  pub has : (upper : Upper) → Contains uppers upper ↔ ((edge : Edge) × (Contains edges edge × IsUpperBy db name edge upper))

-- those of all edges of the schema
pub record AreUppers (db : Db) (name : RowName) (uppers : List Upper) : Type 0 where
  pub has : (upper : Upper) → Contains uppers upper ↔ ((edge : Edge) × IsUpperBy db name edge upper)
