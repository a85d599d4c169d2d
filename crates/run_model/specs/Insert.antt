-- What an INSERT does to the rows of a table.
use Rattle.std.specs.Prelude.{List, [], ◌∷◌, Bool, true, false, Result, Ok, Err, fold, if◌then◌else◌}
use Rattle.std.specs.List.{list_any}
use Rattle.std.specs.declared.cmp.Ordering.{Ordering}
use Rattle.std.specs.declared.cmp.Ordering.TheVariants.{Less, Equal, Greater}
use Rattle.own_base.specs.Key.{key_cmp}
use Rattle.own_base.specs.declared.value.Key.{Key}
use Rattle.own_model.specs.declared.schema.TableDef.{TableDef}
use Rattle.own_model.specs.Db.{Row, key_of}
use Rattle.own_model.specs.Stored.{has_key}

abbrev pub is_less : Ordering → Bool
is_less Less = true
is_less Equal = false
is_less Greater = false

-- whether one row stands before another, by key
abbrev pub precedes : TableDef → Row → Row → Bool
precedes table left right = is_less (key_cmp (key_of table left) (key_of table right))

-- the rows and one more, at its place by key
unfoldable pub with_row : TableDef → Row → List Row → List Row
with_row table row [] = row ∷ []
with_row table row (first ∷ rest) = if precedes table first row then first ∷ with_row table row rest else row ∷ first ∷ rest

-- The rows with a tuple, or the tuple's key where it is there.
unfoldable pub with_tuple : TableDef → List Row → Row → Result (List Row) Key
with_tuple table rows tuple =
    if list_any (has_key table (key_of table tuple)) rows then Err (key_of table tuple) else Ok (with_row table tuple rows)

-- a tuple more, unless one before it was refused
abbrev pub and_tuple : TableDef → Result (List Row) Key → Row → Result (List Row) Key
and_tuple table (Ok rows) tuple = with_tuple table rows tuple
and_tuple table (Err key) tuple = Err key

-- The rows with tuples, one after another; or the key of the first tuple whose key is there, be it of a row or of a tuple
-- before it.
unfoldable pub with_tuples : TableDef → List Row → List Row → Result (List Row) Key
with_tuples table rows tuples = fold (and_tuple table) (Ok rows) tuples
