-- The tables of a schema, and what they are to data subjects.
use Rattle.std.specs.Prelude.{ℕ, Bool, false, not, ◌&&◌, ◌||◌, ◌==◌, length, map, position, slice_get, unwrap_or, bytes_eq}
use Rattle.std.specs.List.{list_any}
use Rattle.std.specs.Option.{option_map_or}
use Rattle.own_model.specs.declared.schema.Schema.{Schema}
use Rattle.schema_model.specs.Columns.{NameBytes, is_named}

-- the names that are taken: those of tables and of views
abbrev pub is_taken : Schema → NameBytes → Bool
is_taken schema name = is_named (map (λ table. table.name) schema.tables) name || is_named (map (λ view. view.name) schema.views) name

-- The number of the table of this name. Where there is none, it is the number of the table that comes next.
abbrev pub number_of : Schema → NameBytes → ℕ
number_of schema name = unwrap_or (position (λ table. bytes_eq table.name name) schema.tables) (length schema.tables)

-- whether the rows of the table of this number are data subjects
abbrev pub is_subject : Schema → ℕ → Bool
is_subject schema table = option_map_or (λ definition. definition.subject) (slice_get schema.tables table) false

-- whether it is private: an owner edge goes out of it
abbrev pub is_private : Schema → ℕ → Bool
is_private schema table = list_any (λ edge. edge.owner && edge.lower.0 == table) schema.edges

-- whether it is public: neither
abbrev pub is_public : Schema → ℕ → Bool
is_public schema table = not (is_subject schema table) && not (is_private schema table)
