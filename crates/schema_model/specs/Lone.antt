-- Tables whose rows are nobody's, and lead to nobody.
use Rattle.std.specs.Prelude.{ℕ, List, Bool, not, ◌&&◌, ◌||◌, ◌==◌}
use Rattle.std.specs.List.{list_all, list_any}
use Rattle.own_base.specs.declared.change.Change.{Change}
use Rattle.own_model.specs.declared.schema.Edge.{Edge}
use Rattle.own_model.specs.declared.schema.Schema.{Schema}
use Rattle.schema_model.specs.Tables.{is_subject}

-- whether an edge goes out of the table of this number, or leads up to it
abbrev pub touches : ℕ → Edge → Bool
touches number edge = edge.lower.0 == number || edge.upper.0 == number

-- Whether a table is lone: it is no subject table, and no edge goes out of it or leads up to it.
unfoldable pub is_lone : Schema → ℕ → Bool
is_lone schema number = not (is_subject schema number) && not (list_any (touches number) schema.edges)

-- whether all tables of some changes are
abbrev pub are_lone : Schema → List Change → Bool
are_lone schema changes = list_all (λ change. is_lone schema change.name.table.0) changes
