-- Rule 10: OWNED_BY and ACCESSED_BY name no public table.
use Rattle.std.specs.Prelude.{List, Bool, not, ◌&&◌, filter, map}
use Rattle.own_model.specs.declared.create.CreateTable.{CreateTable}
use Rattle.own_model.specs.declared.schema.Schema.{Schema}
use Rattle.schema_model.specs.Columns.{NameBytes}
use Rattle.schema_model.specs.Kinds.{is_upward}
use Rattle.schema_model.specs.NewTable.{names_itself}
use Rattle.schema_model.specs.References.{Reference, references_of}
use Rattle.schema_model.specs.Tables.{is_public, number_of}

-- whether a reference is one of them and names a table that is public before the CREATE, other than the new one
abbrev pub is_owned_by_public : Schema → CreateTable → Reference → Bool
is_owned_by_public schema create reference = is_upward reference.refers.kind && not (names_itself create reference.refers)
    && is_public schema (number_of schema reference.refers.table)

-- the columns of such references
unfoldable pub owned_by_public : Schema → CreateTable → List NameBytes
owned_by_public schema create = map (λ reference. reference.column) (filter (is_owned_by_public schema create) (references_of create))
