-- The tables that OWNS columns name.
use Rattle.std.specs.Prelude.{◌≡◌, ◌<◌, true, length}
use Rattle.std.specs.List.{AllByRecursion}
use Rattle.own_model.specs.declared.create.CreateTable.{CreateTable}
use Rattle.own_model.specs.declared.schema.Schema.{Schema}
use Rattle.schema_model.specs.Kinds.{is_owns}
use Rattle.schema_model.specs.References.{Reference, references_of}
use Rattle.schema_model.specs.Tables.{number_of}

-- where a reference is OWNS, it names a table of the schema
abbrev pub OwnsTableOf : Schema → Reference → Type 0
OwnsTableOf schema reference = is_owns reference.refers.kind ≡ true → number_of schema reference.refers.table < length schema.tables

-- so does each of a CREATE TABLE
abbrev pub OwnsTablesOf : Schema → CreateTable → Type 0
OwnsTablesOf schema create = AllByRecursion (OwnsTableOf schema) (references_of create)
