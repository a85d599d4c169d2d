-- The references of a CREATE TABLE.
use Rattle.std.specs.Prelude.{List, [], ◌∷◌, Option, None, Some, filter_map, flat_map, find, bytes_eq}
use Rattle.own_model.specs.declared.create.Attr.{Attr}
use Rattle.own_model.specs.declared.create.Attr.TheVariants as attr
use Rattle.own_model.specs.declared.create.CreateTable.{CreateTable}
use Rattle.own_model.specs.declared.create.Part.{Part}
use Rattle.own_model.specs.declared.create.Part.TheVariants as part
use Rattle.own_model.specs.declared.create.RefDef.{RefDef}
use Rattle.schema_model.specs.Columns.{NameBytes}

-- a reference: the column that has it, and what it refers to
pub record Reference : Type 0 where
  pub column : NameBytes
  pub refers : RefDef

-- the reference that stands after the kind of a column, where one does
abbrev pub reference_after : NameBytes → Attr → Option Reference
reference_after column (attr.Refers refers) = Some (record { column = column; refers = refers })
reference_after column _ = None

-- those of a part
abbrev pub part_references : Part → List Reference
part_references (part.Column column) = filter_map (reference_after column.name) column.attrs
part_references (part.Foreign column refers) = record { column = column; refers = refers } ∷ []
part_references _ = []

-- all of them, in the text's order
abbrev pub references_of : CreateTable → List Reference
references_of create = flat_map part_references create.parts

-- the reference of the column of this name; the first, where it has more
abbrev pub reference_on : CreateTable → NameBytes → Option Reference
reference_on create column = find (λ reference. bytes_eq reference.column column) (references_of create)
