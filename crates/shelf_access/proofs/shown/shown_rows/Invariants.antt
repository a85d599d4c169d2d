use Rattle.std.proofs.Common.{◌≡◌, ◌≤◌, ◌-◌, length, map, take}
use Rattle.shelf_access.specs.Got.{got_copy}
use Rattle.shelf_access.proofs.shown.shown_rows.Given as goal

-- the rows of the copies before the place are there
abbrev pub invariant-loop-at : goal.invariant-loop-at
invariant-loop-at l = record {
  counted : l.count ≡ length l.copies;
  within : l.at ≤ l.count;
  so_far : l.shown ≡ map (got_copy l.schema l.subject.0) (take l.at l.copies);
}

abbrev pub decreases-loop-at : goal.decreases-loop-at
decreases-loop-at l = l.count - l.at
