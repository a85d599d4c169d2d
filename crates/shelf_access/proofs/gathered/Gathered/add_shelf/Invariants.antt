use Rattle.std.proofs.Common.{◌≡◌, ◌≤◌, ◌-◌, length, take}
use Rattle.shelf_model.specs.Shelf.{shelf}
use Rattle.shelf_access.specs.Gathered.{Gathers}
use Rattle.shelf_access.proofs.gathered.Gathered.add_shelf.Given as goal

-- the shelf's copies before the place are there
abbrev pub invariant-loop-at : goal.invariant-loop-at
invariant-loop-at g l = record {
  counted : l.count ≡ length (shelf (g.S.Shelves.shelved l.shelves) l.subject.0);
  within : l.at ≤ l.count;
  gathered : Gathers (take l.at (shelf (g.S.Shelves.shelved l.shelves) l.subject.0)) l.fn.self l.self;
}

abbrev pub decreases-loop-at : goal.decreases-loop-at
decreases-loop-at g l = l.count - l.at
