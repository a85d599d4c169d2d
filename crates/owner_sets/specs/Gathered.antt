-- What is gathered for a row, from the row itself and from the rows that edges join it to.
use Rattle.std.specs.Prelude.{◌≡◌, ℕ, ◌<◌, List, [], ◌∷◌, ◌++◌, ◌==◌, if◌then◌else◌, Option, option_map, flat_map, length, slice_get, slice_index_or}
use Rattle.std.specs.Option.{option_and_then, option_map_or}
use Rattle.own_base.specs.declared.row_name.RowName.{RowName}
use Rattle.own_base.specs.declared.row_name.Subject.{Subject}
use Rattle.own_model.specs.declared.schema.Edge.{Edge}
use Rattle.own_model.specs.declared.schema.Schema.{Schema}
use Rattle.own_model.specs.Db.{Row}
use Rattle.own_model.specs.Stored.{rows_at}
use Rattle.schema_model.specs.OwnerSchema.{named_table}
use Rattle.schema_model.specs.Tables.{is_subject}
use Rattle.subject_model.specs.Named.{name_of}
use Rattle.owner_sets.specs.declared.link.Link.{Link}
use Rattle.owner_sets.specs.declared.which.Which.{Which}
use Rattle.owner_sets.specs.Links.{links}
use Rattle.owner_sets.specs.Sets.{Sets, as_subject, set_at}
use Rattle.owner_sets.specs.WhichSets.{counts}

-- the name of the row at a place of a table
abbrev pub name_at : Schema → List (List Row) → ℕ → ℕ → Option RowName
name_at schema rows table place = option_and_then (λ definition. option_map (name_of table definition) (slice_get (rows_at rows table) place)) (slice_get schema.tables table)

-- that row alone
unfoldable pub row_alone : Schema → List (List Row) → ℕ → ℕ → List Subject
row_alone schema rows table place = option_map_or (λ name. as_subject name ∷ []) (name_at schema rows table place) []

-- a subject row has itself
abbrev pub own_set : Schema → List (List Row) → ℕ → ℕ → List Subject
own_set schema rows table place = if is_subject schema table then row_alone schema rows table place else []

-- An upper row hands down itself where it is a subject row, and else its set.
abbrev pub handed_down : Schema → List (List Row) → Sets → ℕ → ℕ → List Subject
handed_down schema rows sets table place = if is_subject schema table then row_alone schema rows table place else set_at sets table place

-- what comes down to a row over one link of an edge
abbrev pub over_link : Schema → List (List Row) → Sets → Edge → ℕ → Link → List Subject
over_link schema rows sets edge place link = if link.lower == place then handed_down schema rows sets edge.upper.0 link.upper else []

-- over an edge
unfoldable pub over_edge : Schema → List (List Row) → Sets → Edge → ℕ → List Subject
over_edge schema rows sets edge place = flat_map (over_link schema rows sets edge place) (links schema rows edge)

-- over an edge that counts
abbrev pub over_counted : Which → Schema → List (List Row) → Sets → ℕ → Edge → List Subject
over_counted which schema rows sets place edge = if counts which edge then over_edge schema rows sets edge place else []

-- all that is gathered for the row at a place of a table, given the edges out of it
unfoldable pub gathered : Which → Schema → List (List Row) → Sets → ℕ → List Edge → ℕ → List Subject
gathered which schema rows sets table edges place = own_set schema rows table place ++ flat_map (over_counted which schema rows sets place) edges

-- each list has more behind it
pub record HasMore (more : ℕ → List Subject) (old new : List (List Subject)) : Type 0 where
  pub same_length : length new ≡ length old
  pub at : (place : ℕ) → place < length old → slice_index_or new place [] ≡ slice_index_or old place [] ++ more place

-- The tables that an edge joins, and so those of its column and of the rows that this names, are there.
pub record IsWithin (schema : Schema) (edge : Edge) : Type 0 where
  pub upper : edge.upper.0 < length schema.tables
  pub holder : edge.holder.0 < length schema.tables
  pub named : (named_table edge).0 < length schema.tables
