use Rattle.std.proofs.Common.{◌≡◌, ◌++◌, map, take}
use Rattle.owner_index.specs.Referrers.{entry_name}
use Rattle.micro_db.proofs.referrers.add_names.Given as goal

-- the names of the entries so far are there
abbrev pub invariant-loop-entry : goal.invariant-loop-entry
invariant-loop-entry l = l.names ≡ l.fn.names ++ map (entry_name l.table) (take l.entry-index l.entries)
