-- What an INSERT changes.
use Rattle.std.specs.Prelude.{List, [], Bool, ◌||◌, Option, None, Some, Result, Ok, Err, fold, is_some, map, if◌then◌else◌}
use Rattle.std.specs.BTreeMap.{BTreeMap, insert_entry, is_at}
use Rattle.std.specs.Map.{lookup}
use Rattle.own_base.specs.Key.{key_cmp}
use Rattle.own_base.specs.declared.change.Change.{Change}
use Rattle.own_base.specs.declared.number.TableNo.{TableNo}
use Rattle.own_base.specs.declared.row_name.RowName.{RowName}
use Rattle.own_base.specs.declared.value.Key.{Key}
use Rattle.own_model.specs.declared.schema.Schema.{Schema}
use Rattle.own_model.specs.declared.schema.TableDef.{TableDef}
use Rattle.own_model.specs.Db.{Row, key_of}
use Rattle.own_model.specs.Stored.{row_named}

-- tuples behind their keys, which rise
abbrev pub Given : Type 0
Given = List (Key × Row)

-- whether a key is that of a row that is there, or of a tuple given before
abbrev pub is_taken : Schema → List (List Row) → Given → RowName → Bool
is_taken schema rows given name = is_some (row_named schema rows name) || is_some (lookup (is_at (key_cmp name.key)) given)

-- a tuple more, or its key where that is taken
unfoldable pub give : Schema → List (List Row) → TableNo → TableDef → Given → Row → Result Given Key
give schema rows number table given tuple =
    if is_taken schema rows given (record { table = number; key = key_of table tuple }) then Err (key_of table tuple)
    else Ok (insert_entry key_cmp given (key_of table tuple) tuple)

-- unless a key before it was taken
abbrev pub and_given : Schema → List (List Row) → TableNo → TableDef → Result Given Key → Row → Result Given Key
and_given schema rows number table (Ok given) tuple = give schema rows number table given tuple
and_given schema rows number table (Err key) tuple = Err key

-- tuples by their keys, or the first key that is taken
unfoldable pub given_tuples : Schema → List (List Row) → TableNo → TableDef → List Row → Result Given Key
given_tuples schema rows number table tuples = fold (and_given schema rows number table) (Ok []) tuples

-- the tuples, or the key that was taken
abbrev pub given_unless : Given → Option Key → Result Given Key
given_unless given None = Ok given
given_unless given (Some key) = Err key

abbrev pub entries_unless : Result (BTreeMap Key Row) Key → Result Given Key
entries_unless (Ok given) = Ok given.entries
entries_unless (Err key) = Err key

-- that a row comes
abbrev pub insertion : TableNo → Key × Row → Change
insertion number entry = record { name = record { table = number; key = entry.0 }; before = None; after = Some entry.1 }

-- the same, where they are changes: that rows come, or the key that was taken
abbrev pub come_unless : TableNo → Result Given Key → Result (List Change) Key
come_unless number (Ok given) = Ok (map (insertion number) given)
come_unless number (Err key) = Err key
