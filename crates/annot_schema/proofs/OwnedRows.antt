-- The first OWNS column whose table holds rows.
use Rattle.std.proofs.Common.{◌≡◌, List, Bool}
use Rattle.std.specs.List.{AllByRecursion}
use Rattle.std.specs.Prelude.{◌&&◌, find}
use Rattle.own_model.specs.Db.{Row}
use Rattle.own_model.specs.Stored.{holds_rows}
use Rattle.own_model.specs.declared.schema.Schema.{Schema}
use Rattle.schema_model.specs.Kinds.{is_owns}
use Rattle.schema_model.specs.References.{Reference}
use Rattle.schema_model.specs.Tables.{number_of}
use Rattle.annot_schema.specs.OwnedTables.{OwnsTableOf}

-- whether a reference is such a one
abbrev pub owns_rows : Schema → List (List Row) → Reference → Bool
owns_rows schema rows reference = is_owns reference.refers.kind && holds_rows rows (number_of schema reference.refers.table)

-- among what is left of some references the same is found, and each OWNS column of it names a table of the schema
pub record Goes (schema : Schema) (rows : List (List Row)) (left all : List Reference) : Type 0 where
  pub found : find (owns_rows schema rows) left ≡ find (owns_rows schema rows) all
  pub owned : AllByRecursion (OwnsTableOf schema) left
