use Rattle.std.proofs.Common.{◌≡◌, ◌++◌, drop}
use Rattle.std.specs.Prelude.{◌↔◌}
use Rattle.std.specs.List.{AllByRecursion}
use Rattle.owner_model.specs.Joins.{row_of}
use Rattle.disk_model.specs.Lawful.{IsLawfulPut}
use Rattle.disk_model.specs.PutOf.{puts_of}
use Rattle.commit_replay.proofs.puts.changes_of.Given as goal

-- the changes so far are those of the puts before this one; and all are lawful where those from here on are
abbrev pub invariant-loop-put : goal.invariant-loop-put
invariant-loop-put l = record {
  made : puts_of l.changes ++ drop l.put-index l.puts ≡ l.puts;
  was : AllByRecursion (λ change. change.before ≡ row_of l.version change.name) l.changes;
  lawful : AllByRecursion (IsLawfulPut l.version) (drop l.put-index l.puts) ↔ AllByRecursion (IsLawfulPut l.version) l.puts;
}
