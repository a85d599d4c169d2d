-- The names of a rule, as they are written one after another.
use Rattle.std.proofs.Common.{ℕ, Bool, true, false, Option, None, Some, List, ◌++◌, codes}
use Rattle.std.specs.Prelude.{filter_map, if◌then◌else◌}
use Rattle.std.specs.List.{enumerate_from, flat_map}
use Rattle.own_base.specs.declared.number.ColumnSet.{ColumnSet}
use Rattle.own_model.specs.declared.schema.Column.{Column}
use Rattle.owner_model.specs.ColumnSets.{has_column}
use Rattle.schema_model.specs.Columns.{NameBytes}
use Rattle.schema_model.specs.Explained.{rule_text}

-- the name of the column of this number, where it is in the set
abbrev pub name_in : ColumnSet → ℕ → Column → Option NameBytes
name_in set number column = if has_column set number then Some column.name else None

-- the names in the set, of columns that are numbered from here on
abbrev pub names_from : ColumnSet → ℕ → List Column → List NameBytes
names_from set number columns = filter_map (λ numbered. name_in set numbered.0 numbered.1) (enumerate_from number columns)

-- what is left to write of a rule, by whether it is begun
abbrev pub rule_left : Bool → List ℕ → List NameBytes → List ℕ
rule_left true word names = flat_map (λ name. codes ", " ++ name) names ++ codes ")"
rule_left false word names = rule_text word names
