-- What a change puts into a column.
use Rattle.std.specs.Prelude.{ℕ, Option, None, Some, if◌then◌else◌}
use Rattle.std.specs.Option.{option_and_then}
use Rattle.own_base.specs.Key.{key_cmp}
use Rattle.own_base.specs.declared.change.Change.{Change}
use Rattle.own_base.specs.declared.value.Key.{Key}
use Rattle.own_model.specs.Db.{Row}
use Rattle.own_model.specs.Stored.{is_equal}
use Rattle.query_model.specs.Footprints.{literal_key}
use Rattle.query_model.specs.Truth.{cell}

-- the value that a row, where there is one, holds in a column; NULL is none
abbrev pub held : ℕ → Option Row → Option Key
held column row = option_and_then (λ row. literal_key (cell row column)) row

-- a value, where there is one, that isn't the one before
abbrev pub unless_same : Option Key → Option Key → Option Key
unless_same old None = None
unless_same None (Some new) = Some new
unless_same (Some old) (Some new) = if is_equal (key_cmp old new) then None else Some new

-- the value that the row of a change came to hold in a column
abbrev pub came : ℕ → Change → Option Key
came column change = unless_same (held column change.before) (held column change.after)
