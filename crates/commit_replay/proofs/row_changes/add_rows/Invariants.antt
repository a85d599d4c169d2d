use Rattle.std.proofs.Common.{◌≡◌, ◌++◌, drop, map}
use Rattle.std.specs.Prelude.{◌↔◌, None}
use Rattle.std.specs.Option.{option_copied, option_map}
use Rattle.own_model.specs.Db.{key_of}
use Rattle.commit_replay.specs.RowChanges.{AreNextRows, row_change}
use Rattle.commit_replay.proofs.row_changes.add_rows.Given as goal

-- the changes so far and those of the rows from here on are those of all; and all may stand where these may, behind the last
abbrev pub invariant-loop-row : goal.invariant-loop-row
invariant-loop-row l = record {
  added : l.changes ++ map (row_change l.number.0 l.table) (drop l.row-index l.rows) ≡ l.fn.changes ++ map (row_change l.number.0 l.table) l.rows;
  next : AreNextRows l.table (option_map (key_of l.table) (option_copied l.last)) (drop l.row-index l.rows) ↔ AreNextRows l.table None l.rows;
}
