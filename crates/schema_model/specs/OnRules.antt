-- The ON rules of a CREATE TABLE.
use Rattle.std.specs.Prelude.{List, [], Bool, true, false, ◌&&◌, Option, None, Some, filter, filter_map, find, flat_map, bytes_eq}
use Rattle.own_model.specs.declared.create.CreateTable.{CreateTable}
use Rattle.own_model.specs.declared.create.Part.{Part}
use Rattle.own_model.specs.declared.create.Part.TheVariants as part
use Rattle.schema_model.specs.Columns.{NameBytes}
use Rattle.schema_model.specs.Kinds.{gives_edge}
use Rattle.schema_model.specs.References.{Reference, references_of}

-- what a rule does, to the columns that it names or to the row: ON GET hides, ON DEL makes NULL or removes
pub data Effect : Type 0 where
  Hide : Effect
  Blank : Effect
  Strike : Effect

-- a rule: the column that it stands on, and the columns that it names
pub record OnRule : Type 0 where
  pub column : NameBytes
  pub effect : Effect
  pub ruled : List NameBytes

abbrev pub rule_of : Part → Option OnRule
rule_of (part.Get column hidden) = Some (record { column = column; effect = Hide; ruled = hidden })
rule_of (part.Del column blanked) = Some (record { column = column; effect = Blank; ruled = blanked })
rule_of (part.DelRow column) = Some (record { column = column; effect = Strike; ruled = [] })
rule_of _ = None

-- the rules, in the text's order
abbrev pub rules_of : CreateTable → List OnRule
rules_of create = filter_map rule_of create.parts

abbrev pub is_get : Effect → Bool
is_get Hide = true
is_get Blank = false
is_get Strike = false

-- whether both are ON GET, or both ON DEL
abbrev pub are_of_one_kind : Effect → Effect → Bool
are_of_one_kind Hide effect = is_get effect
are_of_one_kind Blank Hide = false
are_of_one_kind Blank _ = true
are_of_one_kind Strike Hide = false
are_of_one_kind Strike _ = true

abbrev pub is_blank : Effect → Bool
is_blank Hide = false
is_blank Blank = true
is_blank Strike = false

abbrev pub is_strike : Effect → Bool
is_strike Hide = false
is_strike Blank = false
is_strike Strike = true

-- the columns that the rules of one effect on a column name
abbrev pub ruled_by : (Effect → Bool) → CreateTable → NameBytes → List NameBytes
ruled_by is_effect create column = flat_map (λ rule. rule.ruled) (filter (λ rule. is_effect rule.effect && bytes_eq rule.column column) (rules_of create))

-- the edge that a rule stands on, as the reference of its column
abbrev pub edge_on : CreateTable → NameBytes → Option Reference
edge_on create column = find (λ reference. gives_edge reference.refers.kind && bytes_eq reference.column column) (references_of create)
