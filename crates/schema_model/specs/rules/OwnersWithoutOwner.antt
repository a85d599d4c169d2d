-- Rule 11: OWNS and ACCESSES stand in a table of data subjects, or in one that has an OWNED_BY column.
use Rattle.std.specs.Prelude.{List, [], Bool, ◌||◌, filter, map, if◌then◌else◌}
use Rattle.std.specs.List.{list_any}
use Rattle.own_model.specs.declared.create.CreateTable.{CreateTable}
use Rattle.schema_model.specs.Columns.{NameBytes}
use Rattle.schema_model.specs.Kinds.{is_downward, is_owned_by}
use Rattle.schema_model.specs.References.{references_of}

-- whether the table's rows are data subjects, or have an OWNED_BY column
abbrev pub may_own : CreateTable → Bool
may_own create = create.subject || list_any (λ reference. is_owned_by reference.refers.kind) (references_of create)

-- the columns of OWNS and ACCESSES in any other table
unfoldable pub owners_without_owner : CreateTable → List NameBytes
owners_without_owner create = if may_own create then []
    else map (λ reference. reference.column) (filter (λ reference. is_downward reference.refers.kind) (references_of create))
