use Rattle.std.proofs.Common.{◌≡◌, filter, take}
use Rattle.state_model.specs.Put.{is_of_table}
use Rattle.store_version.proofs.after.changes_of.Given as goal

-- those of the table among the changes so far
abbrev pub invariant-loop-change : goal.invariant-loop-change
invariant-loop-change l = l.own ≡ filter (is_of_table l.number) (take l.change-index l.changes)
