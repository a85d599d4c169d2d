-- Which data subjects own a row, and which reach it.
use Rattle.std.specs.Prelude.{List, [], ◌∷◌, Bool, false, ◌&&◌, ◌==◌, filter, map, IsTrue}
use Rattle.std.specs.List.{AllByRecursion, list_all, list_any}
use Rattle.own_base.specs.declared.number.EdgeNo.{EdgeNo}
use Rattle.own_base.specs.declared.row_name.RowName.{RowName}
use Rattle.own_model.specs.declared.schema.Edge.{Edge}
use Rattle.own_model.specs.Db.{Db}
use Rattle.subject_model.specs.Named.{is_name, named_rows}
use Rattle.subject_model.specs.Paths.{IsPath, Path, end_of, is_subject_row, paths}

-- a path of owner edges alone
abbrev pub IsOwnerPath : Path → Type 0
IsOwnerPath path = AllByRecursion (λ step. IsTrue step.edge.owner) path

-- A subject owns a row where a path of owner edges alone leads from the row to the subject.
pub record Owns (db : Db) (subject name : RowName) : Type 0 where
  pub path : Path
  pub leads : IsPath db name path subject
  pub owner : IsOwnerPath path

-- It reaches the row where any path does.
pub record Reaches (db : Db) (subject name : RowName) : Type 0 where
  pub path : Path
  pub leads : IsPath db name path subject

-- Such a path may begin with an edge.
pub record By (db : Db) (subject name : RowName) (edge : Edge) : Type 0 where
  pub upper : RowName
  pub rest : Path
  pub leads : IsPath db name (record { edge = edge; upper = upper } ∷ rest) subject

-- whether a path from a row ends at a subject
abbrev pub leads_to : RowName → RowName → Path → Bool
leads_to subject from path = is_name (end_of from path) subject

abbrev pub is_owner_path : Path → Bool
is_owner_path path = list_all (λ step. step.edge.owner) path

-- whether a subject owns a row
unfoldable pub owns : Db → RowName → RowName → Bool
owns db subject name = list_any (λ path. leads_to subject name path && is_owner_path path) (paths db name)

-- whether it reaches the row
unfoldable pub reaches : Db → RowName → RowName → Bool
reaches db subject name = list_any (leads_to subject name) (paths db name)

-- whether a path begins with an edge
abbrev pub begins_with : Edge → Path → Bool
begins_with edge [] = false
begins_with edge (step ∷ rest) = step.edge.number.0 == edge.number.0

-- whether a path to a subject begins with an edge
abbrev pub reaches_by : Db → RowName → RowName → Edge → Bool
reaches_by db subject name edge = list_any (λ path. leads_to subject name path && begins_with edge path) (paths db name)

-- the edges with which the paths from a row to a subject begin, by number
unfoldable pub by : Db → RowName → RowName → List EdgeNo
by db subject name = map (λ edge. edge.number) (filter (reaches_by db subject name) db.schema.edges)

-- all data subjects, by table, then key
abbrev pub subjects : Db → List RowName
subjects db = filter (is_subject_row db) (map (λ named. named.name) (named_rows db))

-- the owners of a row, and those that reach it, by table, then key
unfoldable pub owners : Db → RowName → List RowName
owners db name = filter (λ subject. owns db subject name) (subjects db)

unfoldable pub reach : Db → RowName → List RowName
reach db name = filter (λ subject. reaches db subject name) (subjects db)

-- whether a row has an owner
abbrev pub has_owner : Db → RowName → Bool
has_owner db name = list_any is_owner_path (paths db name)
