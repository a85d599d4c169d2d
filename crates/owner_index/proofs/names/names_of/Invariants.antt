use Rattle.std.proofs.Common.{◌≡◌, take}
use Rattle.std.specs.Prelude.{filter}
use Rattle.owner_index.specs.Names.{is_of}
use Rattle.owner_index.proofs.names.names_of.Given as goal

-- those of the table among the names so far
abbrev pub invariant-loop-name : goal.invariant-loop-name
invariant-loop-name l = l.own.items ≡ filter (is_of l.table) (take l.name-index l.names)
