use Rattle.std.proofs.Common.{◌≡◌, drop}
use Rattle.query_eval.specs.ShowColumns.{show_columns}
use Rattle.query_eval.proofs.shown.are_columns.Given as goal

-- it hangs on the items from here on
abbrev pub invariant-loop-place : goal.invariant-loop-place
invariant-loop-place l = show_columns 0 l.items ≡ show_columns l.place (drop l.place l.items)
