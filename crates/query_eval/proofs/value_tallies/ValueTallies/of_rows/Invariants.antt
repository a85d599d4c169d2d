use Rattle.std.proofs.Common.{◌≡◌, take}
use Rattle.query_eval.specs.ByValue.{by_value}
use Rattle.query_eval.specs.Tally.{tally}
use Rattle.query_eval.proofs.value_tallies.ValueTallies.of_rows.Given as goal

abbrev pub invariant-loop-row : goal.invariant-loop-row
invariant-loop-row l = record {
  column : l.tallies.column ≡ l.fn.column;
  items : l.tallies.items.now ≡ l.fn.items;
  groups : l.tallies.groups.entries ≡ by_value (tally l.fn.items) l.fn.column.0 (take l.row-index l.rows);
}
