-- Rule 9: nobody owns a data subject.
use Rattle.std.specs.Prelude.{List, Bool, false, ◌||◌, ◌&&◌, filter, map}
use Rattle.std.specs.Option.{option_map_or}
use Rattle.own_model.specs.declared.create.CreateTable.{CreateTable}
use Rattle.own_model.specs.declared.schema.Schema.{Schema}
use Rattle.schema_model.specs.Columns.{NameBytes}
use Rattle.schema_model.specs.Kinds.{is_owned_by, is_owns}
use Rattle.schema_model.specs.NewTable.{target_of}
use Rattle.schema_model.specs.References.{Reference, references_of}

-- whether a reference names a table of data subjects
abbrev pub names_subjects : Schema → CreateTable → Reference → Bool
names_subjects schema create reference = option_map_or (λ table. table.subject) (target_of schema create reference.refers) false

-- whether it is OWNED_BY in a table of data subjects, or OWNS of one
abbrev pub owns_subjects : Schema → CreateTable → Reference → Bool
owns_subjects schema create reference = (is_owned_by reference.refers.kind && create.subject)
    || (is_owns reference.refers.kind && names_subjects schema create reference)

-- the columns by which a data subject would be owned
unfoldable pub owned_subjects : Schema → CreateTable → List NameBytes
owned_subjects schema create = map (λ reference. reference.column) (filter (owns_subjects schema create) (references_of create))
