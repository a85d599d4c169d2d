-- What is gathered for a row, from itself and from its upper rows.
use Rattle.std.specs.Prelude.{List, [], ◌∷◌, ◌++◌, Bool, true, flat_map, if◌then◌else◌}
use Rattle.own_base.specs.declared.row_name.RowName.{RowName}
use Rattle.own_base.specs.declared.row_name.Subject.{Subject}
use Rattle.own_model.specs.declared.schema.Schema.{Schema}
use Rattle.schema_model.specs.Tables.{is_subject}
use Rattle.link_model.specs.Whose.{as_subject}
use Rattle.owner_index.specs.Entry.{Entry}
use Rattle.owner_index.specs.declared.upper.Upper.{Upper}
use Rattle.owner_index.specs.declared.which.Which.{Which}
use Rattle.owner_index.specs.declared.which.Which.TheVariants.{Owners, Reach}
use Rattle.owner_index.specs.Held.{held}

-- whether an upper row counts
abbrev pub is_counted : Which → Upper → Bool
is_counted Owners upper = upper.owner
is_counted Reach upper = true

-- a row of a subject table is a subject
abbrev pub own_subject : Schema → RowName → List Subject
own_subject schema name = if is_subject schema name.table.0 then as_subject name ∷ [] else []

-- An upper row hands down itself where it is a subject row, and else what is held for it.
abbrev pub handed_down : Which → Schema → List Entry → RowName → List Subject
handed_down which schema entries name = if is_subject schema name.table.0 then as_subject name ∷ [] else held which entries name

-- where it counts
abbrev pub handed_by : Which → Schema → List Entry → Upper → List Subject
handed_by which schema entries upper = if is_counted which upper then handed_down which schema entries upper.name else []

-- all that is gathered
abbrev pub gathered : Which → Schema → List Entry → RowName → List Upper → List Subject
gathered which schema entries name uppers = own_subject schema name ++ flat_map (handed_by which schema entries) uppers
