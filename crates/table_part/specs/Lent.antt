-- A change that is lent.
use Rattle.own_base.specs.declared.change.Change.{Change}
use Rattle.table_part.specs.declared.keyed_change.KeyedChange.{KeyedChange}

-- the change itself
abbrev pub lent : KeyedChange → Change
lent keyed = keyed.0.now
