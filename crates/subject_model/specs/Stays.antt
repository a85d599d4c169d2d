-- Which rows a GDPR FORGET leaves.
use Rattle.std.specs.Prelude.{Bool, not, ◌&&◌, ◌||◌}
use Rattle.std.specs.List.{list_all, list_any}
use Rattle.own_base.specs.declared.row_name.RowName.{RowName}
use Rattle.own_model.specs.Db.{Db}
use Rattle.schema_model.specs.Tables.{is_private}
use Rattle.subject_model.specs.Named.{is_name}
use Rattle.subject_model.specs.Owners.{is_owner_path, leads_to, owns}
use Rattle.subject_model.specs.Paths.{Path, paths, steps_of}

-- A row is struck for a subject where an edge of it that is ruled DELETE_ROW leads to a row that the subject owns.
unfoldable pub struck : Db → RowName → RowName → Bool
struck db subject name = list_any (λ step. step.edge.strike && owns db subject step.upper) (steps_of db name)

-- no row of a path is struck, the first included
abbrev pub is_free : Db → RowName → RowName → Path → Bool
is_free db subject from path = not (struck db subject from) && list_all (λ step. not (struck db subject step.upper)) path

-- a path by which another than the subject keeps a row: of owner edges, to another subject, with no row struck
abbrev pub holds : Db → RowName → RowName → Path → Bool
holds db subject from path = is_owner_path path && not (leads_to subject from path) && is_free db subject from path

-- A row stays where it isn't the subject's own, and its table isn't private or some owner path from it to another
-- subject has no struck row.
unfoldable pub stays : Db → RowName → RowName → Bool
stays db subject name = not (is_name name subject) && (not (is_private db.schema name.table.0) || list_any (holds db subject name) (paths db name))
