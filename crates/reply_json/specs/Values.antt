-- Values as JSON.
use Rattle.std.specs.Prelude.{ℤ, true, codes}
use Rattle.std.specs.Fmt.{signed_decimal}
use Rattle.serde_json.specs.Data.{Data, null, boolean, number, string, object, member, no_members}
use Rattle.serde_json.specs.Find.{of_integer}
use Rattle.own_base.specs.declared.value.Key.{Key}
use Rattle.own_base.specs.declared.value.Key.TheVariants as key
use Rattle.own_base.specs.declared.value.Value.{Value}
use Rattle.own_base.specs.declared.value.Value.TheVariants.{Null, Int, Text, Sum}
use Rattle.own_model.specs.declared.reply.Cell.{Cell}
use Rattle.own_model.specs.declared.reply.Cell.TheVariants.{Shown, Hidden}

-- an integer
abbrev pub integer_data : ℤ → Data
integer_data z = number (of_integer z)

-- a sum, which 64 bits may not hold: the text of its digits
abbrev pub sum_data : ℤ → Data
sum_data z = object (member (codes "sum") (string (signed_decimal z)) no_members)

-- a value
abbrev pub value_data : Value → Data
value_data Null = null
value_data (Int z) = integer_data z
value_data (Text text) = string text
value_data (Sum z) = sum_data z

-- a key
abbrev pub key_data : Key → Data
key_data (key.Int z) = integer_data z
key_data (key.Text text) = string text

-- what a GDPR GET shows of a value: it, or that it is hidden, which is no JSON of a value
abbrev pub cell_data : Cell → Data
cell_data (Shown value) = value_data value
cell_data Hidden = object (member (codes "hidden") (boolean true) no_members)
