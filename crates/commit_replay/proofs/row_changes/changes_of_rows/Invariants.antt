use Rattle.std.proofs.Common.{◌≡◌, ◌++◌, drop}
use Rattle.std.specs.Prelude.{◌↔◌}
use Rattle.commit_replay.specs.RowChanges.{AreTablesOfRows, changes_from}
use Rattle.commit_replay.proofs.row_changes.changes_of_rows.Given as goal

-- the changes so far and those of the tables from here on are those of all; and all may stand where these may
abbrev pub invariant-loop-number : goal.invariant-loop-number
invariant-loop-number l = record {
  added : l.changes ++ changes_from l.number (drop l.number l.definitions) (drop l.number l.tables) ≡ changes_from 0 l.definitions l.tables;
  next : AreTablesOfRows (drop l.number l.definitions) (drop l.number l.tables) ↔ AreTablesOfRows l.definitions l.tables;
}
