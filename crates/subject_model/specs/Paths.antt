-- Paths: how rows lead up to data subjects.
use Rattle.std.specs.Prelude.{◌≡◌, ℕ, zero, suc, List, [], ◌∷◌, ◌++◌, Bool, false, ◌&&◌, ◌==◌, filter, flat_map, length, map, IsTrue, if◌then◌else◌}
use Rattle.std.specs.Option.{option_map_or}
use Rattle.own_base.specs.Key.{key_cmp}
use Rattle.own_base.specs.declared.row_name.RowName.{RowName}
use Rattle.own_base.specs.declared.value.Key.{Key}
use Rattle.own_base.specs.declared.value.Value.{Value}
use Rattle.own_model.specs.declared.schema.Edge.{Edge}
use Rattle.own_model.specs.Db.{Db}
use Rattle.own_model.specs.Stored.{is_equal}
use Rattle.owner_model.specs.Joins.{Joins, holder_of, other_of, value_at}
use Rattle.schema_model.specs.Tables.{is_subject}
use Rattle.query_model.specs.Footprints.{literal_key}
use Rattle.subject_model.specs.Named.{is_there, named_rows}

-- whether a row is a data subject: a row of a subject table that is there
unfoldable pub is_subject_row : Db → RowName → Bool
is_subject_row db name = is_subject db.schema name.table.0 && is_there db name

-- a step of a path: an edge, and the row that it enters
pub record Step : Type 0 where
  pub edge : Edge
  pub upper : RowName

-- the steps from a row, one after another; none is the path of that row alone
abbrev pub Path : Type 0
Path = List Step

-- A path leads from a row to a data subject. Each edge joins two neighbours, and the path ends at the first subject row
-- that it enters. The path of no step is that of a subject row to itself.
abbrev pub IsPath : Db → RowName → Path → RowName → Type 0
IsPath db from [] subject = (IsTrue (is_subject_row db from)) × (from ≡ subject)
IsPath db from (step ∷ rest) subject = Joins db from step.edge step.upper
    × ((IsTrue (is_subject_row db step.upper) → rest ≡ []) × IsPath db step.upper rest subject)

-- whether a value is this key
abbrev pub is_key : Key → Value → Bool
is_key key value = option_map_or (λ held. is_equal (key_cmp held key)) (literal_key value) false

-- whether an edge joins a row to an upper one
unfoldable pub joins : Db → RowName → Edge → RowName → Bool
joins db lower edge upper = (lower.table.0 == edge.lower.0 && upper.table.0 == edge.upper.0) && (is_there db lower && is_there db upper)
    && option_map_or (is_key (other_of edge lower upper).key) (value_at db (holder_of edge lower upper) edge.column.0) false

-- the steps out of a row along one edge
abbrev pub steps_along : Db → RowName → Edge → List Step
steps_along db lower edge = map (λ named. record { edge = edge; upper = named.name }) (filter (λ named. joins db lower edge named.name) (named_rows db))

-- all steps out of a row
unfoldable pub steps_of : Db → RowName → List Step
steps_of db lower = flat_map (steps_along db lower) db.schema.edges

-- the paths of at least one step, and at most that many
unfoldable pub climbs : ℕ → Db → RowName → List Path
climbs zero db from = []
climbs (suc most) db from =
    flat_map (λ step. map (λ rest. step ∷ rest) (if is_subject_row db step.upper then [] ∷ [] else climbs most db step.upper)) (steps_of db from)

-- All paths from a row. The edges never come back to a table, so no path has more steps than there are tables.
unfoldable pub paths : Db → RowName → List Path
paths db from = (if is_subject_row db from then [] ∷ [] else []) ++ climbs (length db.schema.tables) db from

-- the row at which a path ends
unfoldable pub end_of : RowName → Path → RowName
end_of from [] = from
end_of from (step ∷ rest) = end_of step.upper rest
