-- What a transaction changes: its net.
use Rattle.std.specs.Prelude.{ℕ, ◌+◌, List, [], ◌∷◌, ◌++◌, Option, None, Some, filter_map, find, fold, if◌then◌else◌}
use Rattle.own_base.specs.declared.change.Change.{Change}
use Rattle.own_base.specs.declared.row_name.RowName.{RowName}
use Rattle.own_base.specs.declared.value.Key.{Key}
use Rattle.own_model.specs.declared.schema.TableDef.{TableDef}
use Rattle.own_model.specs.Db.{Db, Row, key_of}
use Rattle.own_model.specs.Stored.{has_key}
use Rattle.query_model.specs.Footprints.{with_key}
use Rattle.state_model.specs.Same.{is_same_state}

-- the keys of some rows, rising, each once
abbrev pub keys_in : TableDef → List Row → List Key
keys_in table rows = fold (λ keys row. with_key (key_of table row) keys) [] rows

abbrev pub change_unless_same : RowName → Option Row → Option Row → Option Change
change_unless_same name before after = if is_same_state before after then None else Some (record { name = name; before = before; after = after })

-- what becomes of the row of a key: nothing where it ends as it began
abbrev pub change_at : ℕ → TableDef → List Row → List Row → Key → Option Change
change_at number table before after key =
    change_unless_same (record { table = record { 0 = number }; key = key }) (find (has_key table key) before) (find (has_key table key) after)

-- the changes of one table, by key
abbrev pub net_in : ℕ → TableDef → List Row → List Row → List Change
net_in number table before after = filter_map (change_at number table before after) (keys_in table (before ++ after))

-- and of tables that are numbered from here on
unfoldable pub net_from : ℕ → List TableDef → List (List Row) → List (List Row) → List Change
net_from number (table ∷ tables) (before ∷ befores) (after ∷ afters) = net_in number table before after ++ net_from (number + 1) tables befores afters
net_from number _ _ _ = []

-- The rows that differ between two databases of one schema, by table, then key: each with what it was and what it is.
unfoldable pub net : Db → Db → List Change
net before after = net_from 0 after.schema.tables before.rows after.rows
