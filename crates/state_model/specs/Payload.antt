-- How many bytes a net takes on the disk.
use Rattle.std.specs.Prelude.{ℕ, ◌+◌, List, length, Option, None, Some, sum_by}
use Rattle.own_base.specs.declared.change.Change.{Change}
use Rattle.own_base.specs.declared.value.Key.{Key}
use Rattle.own_base.specs.declared.value.Key.TheVariants as key
use Rattle.own_base.specs.declared.value.Value.{Value}
use Rattle.own_base.specs.declared.value.Value.TheVariants.{Null, Int, Text, Sum}
use Rattle.own_model.specs.Db.{Row}

-- a byte for the kind; eight for a number; four for a text's length, and its bytes
abbrev pub value_bytes : Value → ℕ
value_bytes Null = 1
value_bytes (Int number) = 9
value_bytes (Text bytes) = 5 + length bytes
value_bytes (Sum number) = 9

abbrev pub key_bytes : Key → ℕ
key_bytes (key.Int number) = 9
key_bytes (key.Text bytes) = 5 + length bytes

-- a row that is there: four bytes for the number of its values, and the values
abbrev pub state_bytes : Option Row → ℕ
state_bytes None = 0
state_bytes (Some row) = 4 + sum_by value_bytes row

-- four bytes for the table, the key, and a byte for whether the row is there
abbrev pub change_bytes : Change → ℕ
change_bytes change = 4 + key_bytes change.name.key + 1 + state_bytes change.after

-- a byte for the kind of the record, four for the number of changes, and the changes
unfoldable pub payload_bytes : List Change → ℕ
payload_bytes changes = 5 + sum_by change_bytes changes
