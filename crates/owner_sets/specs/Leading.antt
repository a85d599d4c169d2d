-- Which edges lead from a row to a row that hands a subject down.
use Rattle.std.specs.Prelude.{◌≡◌, ℕ, ◌<◌, List, [], ◌∷◌, ◌++◌, Bool, true, false, ◌&&◌, ◌||◌, ◌==◌, filter, length, map, slice_index_or}
use Rattle.std.specs.List.{list_any}
use Rattle.std.specs.Option.{option_map_or}
use Rattle.own_base.specs.declared.number.EdgeNo.{EdgeNo}
use Rattle.own_base.specs.declared.row_name.RowName.{RowName}
use Rattle.own_base.specs.declared.row_name.Subject.{Subject}
use Rattle.own_model.specs.declared.schema.Edge.{Edge}
use Rattle.own_model.specs.declared.schema.Schema.{Schema}
use Rattle.own_model.specs.Db.{Row}
use Rattle.subject_model.specs.Named.{is_name}
use Rattle.owner_sets.specs.Gathered.{name_at, over_edge}
use Rattle.owner_sets.specs.Sets.{Sets}

-- whether the row at a place of a table has this name
abbrev pub is_named : Schema → List (List Row) → ℕ → ℕ → RowName → Bool
is_named schema rows table place name = option_map_or (λ own. is_name own name) (name_at schema rows table place) false

-- whether a subject stands in a list
abbrev pub is_among : Subject → List Subject → Bool
is_among subject subjects = list_any (λ other. is_name other.0 subject.0) subjects

-- whether an edge leads from the row at a place of a table to a row that hands the subject down
unfoldable pub leads : Schema → List (List Row) → Sets → Subject → ℕ → ℕ → Edge → Bool
leads schema rows reach subject table place edge = edge.lower.0 == table && is_among subject (over_edge schema rows reach edge place)

-- the numbers of those of some edges that do
unfoldable pub leading : Schema → List (List Row) → Sets → Subject → ℕ → List Edge → ℕ → List EdgeNo
leading schema rows reach subject table edges place = map (λ edge. edge.number) (filter (leads schema rows reach subject table place) edges)

-- each place is marked where it was, and where more says so
pub record HasMarks (more : ℕ → Bool) (old new : List Bool) : Type 0 where
  pub same_length : length new ≡ length old
  pub at : (place : ℕ) → place < length old → slice_index_or new place false ≡ (slice_index_or old place false || more place)

-- the edge's number where a row is marked
abbrev pub number_where : Bool → EdgeNo → List EdgeNo
number_where true number = number ∷ []
number_where false number = []

-- each list has more behind it
pub record HasEdges (more : ℕ → List EdgeNo) (old new : List (List EdgeNo)) : Type 0 where
  pub same_length : length new ≡ length old
  pub at : (place : ℕ) → place < length old → slice_index_or new place [] ≡ slice_index_or old place [] ++ more place
