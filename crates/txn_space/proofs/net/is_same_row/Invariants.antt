use Rattle.std.proofs.Common.{◌≡◌, length, drop}
use Rattle.state_model.specs.Same.{is_same_row}
use Rattle.txn_space.proofs.net.is_same_row.Given as goal

-- it hangs on the values from here on
abbrev pub invariant-loop-place : goal.invariant-loop-place
invariant-loop-place l = record {
  lengths : length l.left ≡ length l.right;
  rest : is_same_row l.left l.right ≡ is_same_row (drop l.place l.left) (drop l.place l.right);
}
